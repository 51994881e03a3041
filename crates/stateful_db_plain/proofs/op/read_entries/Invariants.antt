use Rattle.stateful_db_plain.proofs.OpReads.{ReadsOn}
use Rattle.stateful_db_plain.proofs.op.read_entries.Given as goal

-- the entries so far are read, and stand before what is left
abbrev pub invariant-loop-left : goal.invariant-loop-left
invariant-loop-left l = ReadsOn l.count l.fn.input l.input l.entries.entries l.left l.least

abbrev pub decreases-loop-left : goal.decreases-loop-left
decreases-loop-left l = l.left
