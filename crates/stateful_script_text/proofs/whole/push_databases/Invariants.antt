use Rattle.std.proofs.Common.{◌≡◌, ◌++◌, take}
use Rattle.std.specs.List.{flat_map, enumerate_from}
use Rattle.stateful_script_text.specs.Transcript.{database_line}
use Rattle.stateful_script_text.proofs.whole.push_databases.Given as goal

abbrev pub invariant-loop-number : goal.invariant-loop-number
invariant-loop-number l =
    l.out.items ≡ l.fn.out.items ++ flat_map database_line (take l.number (enumerate_from 0 l.databases))
