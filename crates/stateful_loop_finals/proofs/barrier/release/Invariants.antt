use Rattle.std.proofs.Common.{length}
use Rattle.stateful_loop_model.proofs.BarrierCalls.{Acknowledges}
use Rattle.stateful_loop_finals.proofs.barrier.release.Given as goal

abbrev pub invariant-loop-ticket : goal.invariant-loop-ticket
invariant-loop-ticket g l = Acknowledges l.initial.processing l.processing l.initial.marks.items l.marks.items

abbrev pub decreases-loop-ticket : goal.decreases-loop-ticket
decreases-loop-ticket g l = length l.processing.durability.held
