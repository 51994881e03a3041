use Rattle.std.proofs.Common.{length}
use Rattle.stateful_base.specs.Number.{u32_format}
use Rattle.stateful_types.proofs.Counted.{fits_more, written_more}
use Rattle.stateful_types.proofs.vote.write_signers.Goals as goal

pub loop-signer-preserved : goal.loop-signer-preserved
loop-signer-preserved c =
    let xs = c.as_slice-signer-items.result.now in
    let i = c.loop-signer.signer-index in
    let w = c.in_ok-write_u32-2.ensures in
    record {
      fits = fits_more u32_format xs i 0 c.loop-signer-test.true c.loop-signer.invariant.fits w.fits;
      written = written_more u32_format xs i 0 c.loop-signer-test.true (u32_format.spelling (length xs)) c.args.out.now.items c.loop-signer.out.items c.write_u32-in-loop-signer.new.out.items c.loop-signer.invariant.written w.appended;
    }
