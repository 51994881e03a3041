use Rattle.std.proofs.Common.{◌∷◌, take}
use Rattle.stateful_exec_walk.proofs.Walking.{Reaches}
use Rattle.stateful_exec_walk.proofs.walk.walk_from.Given as goal

abbrev pub invariant-loop-next : goal.invariant-loop-next
invariant-loop-next g l = Reaches g.B.Block.header l.anchor l.cache l.fn.path.blocks (l.fn.path.parent ∷ take l.next-index l.acquired) l.path
