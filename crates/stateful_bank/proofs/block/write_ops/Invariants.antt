use Rattle.std.proofs.Common.{◌≡◌, ◌++◌, take}
use Rattle.std.specs.List.{flat_map}
use Rattle.stateful_bank.specs.Op.{op_bytes}
use Rattle.stateful_bank.proofs.block.write_ops.Given as goal

-- what was there before the loop, and the bytes of those so far
abbrev pub invariant-loop-op : goal.invariant-loop-op
invariant-loop-op l = l.out.items ≡ l.initial.out.items ++ flat_map op_bytes (take l.op-index l.ops)
