use Rattle.std.proofs.Common.{◌≡◌, ◌≤◌, ◌+◌, length}
use Rattle.stateful_script.specs.Script.{read_from, script_or_line}
use Rattle.stateful_script.proofs.LinesLeft.{parts_of}
use Rattle.stateful_script.proofs.read.read_script.Given as goal

abbrev pub invariant-lines : goal.invariant-lines
invariant-lines l = record {
  same : read_from l.script l.number (parts_of l.rest) ≡ script_or_line l.bytes;
  within : l.number + length l.rest ≤ length l.bytes + 1;
}

abbrev pub decreases-lines : goal.decreases-lines
decreases-lines l = length l.rest
