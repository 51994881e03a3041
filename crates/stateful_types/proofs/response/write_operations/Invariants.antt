use Rattle.std.proofs.Common.{◌≡◌, ◌++◌, length, take, All}
use Rattle.std.specs.List.{flat_map}
use Rattle.stateful_base.specs.Number.{u32_format}
use Rattle.stateful_types.proofs.response.write_operations.Given as goal

-- the number of operations is written, and the operations so far
abbrev pub invariant-loop-op : goal.invariant-loop-op
invariant-loop-op g l =
    let op = g.Op.Operation.operations in
    record {
      fits : All op.fits (take l.op-index l.op-items);
      written : l.out.items ≡ l.fn.out.items ++ (u32_format.spelling (length l.op-items) ++ flat_map op.spelling (take l.op-index l.op-items));
    }
