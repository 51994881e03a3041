use Rattle.std.proofs.Common.{◌≡◌, take}
use Rattle.stateful_db_any.proofs.applied.copies.Given as goal

-- copies of the first ones so far
abbrev pub invariant-loop-op : goal.invariant-loop-op
invariant-loop-op g l = l.same.items ≡ take l.op-index l.ops
