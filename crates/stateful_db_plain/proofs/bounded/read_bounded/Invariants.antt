use Rattle.stateful_db_plain.proofs.Bounds.{ReadsDown}
use Rattle.stateful_db_plain.proofs.bounded.read_bounded.Given as goal

-- the bytes so far are those of numbers in the bounds
abbrev pub invariant-loop-places : goal.invariant-loop-places
invariant-loop-places l = ReadsDown l.least l.most l.fn.input l.input l.places l.top

abbrev pub decreases-loop-places : goal.decreases-loop-places
decreases-loop-places l = l.places
