use Rattle.std.proofs.Common.{◌≡◌, ◌++◌, take}
use Rattle.std.specs.List.{flat_map, enumerate_from}
use Rattle.stateful_script_text.specs.Transcript.{entry_lines}
use Rattle.stateful_script_text.proofs.whole.push_entries.Given as goal

abbrev pub invariant-loop-number : goal.invariant-loop-number
invariant-loop-number g l =
    l.out.items ≡ l.fn.out.items ++ flat_map (entry_lines g.B.Block.header.height l.lines.labels.now) (take l.number (enumerate_from 0 l.entries))
