use Rattle.std.proofs.Common.{◌≡◌, take}
use Rattle.stateful_db_keyless.proofs.keyless.applied.copied.Given as goal

-- the copies so far
abbrev pub invariant-loop-op : goal.invariant-loop-op
invariant-loop-op g l = l.ops.items ≡ take l.op-index l.op-items
