use Rattle.std.proofs.Common.{length}
use Rattle.stateful_base.specs.Number.{u32_format}
use Rattle.stateful_types.proofs.Counted.{fits_more, written_more}
use Rattle.stateful_types.proofs.response.write_operations.Goals as goal

pub loop-op-preserved : goal.loop-op-preserved
loop-op-preserved g c =
    let op = g.Op.Operation.operations in
    let xs = c.as_slice-op-items.result.now in
    let i = c.loop-op.op-index in
    let w = rw c.op-item.is at c.in_ok-write.ensures in
    record {
      fits = fits_more op xs i c.op-item.result c.loop-op-test.true c.loop-op.invariant.fits w.fits;
      written = written_more op xs i c.op-item.result c.loop-op-test.true (u32_format.spelling (length xs)) c.args.out.now.items c.loop-op.out.items c.write.new.out.items c.loop-op.invariant.written w.appended;
    }
