use Rattle.std.proofs.Common.{◌≡◌, length, arith}
use Rattle.stateful_base.specs.Number.{u32_format}
use Rattle.stateful_types.specs.Items.{exactly_format}
use Rattle.stateful_base.proofs.Formats.{met, reads, passed}
use Rattle.stateful_base.specs.FixedLaws.{u32_alone}
use Rattle.stateful_types.specs.ItemsLaws.{exactly_alone}
use Rattle.stateful_types.proofs.Counted.{exactly_err, exactly_ok, exactly_memory}
use Rattle.stateful_types.proofs.vote.read_signers.Goals as goal

pub returns-in_err-read_u32 : goal.returns-in_err-read_u32
returns-in_err-read_u32 c =
    let l = c.loop.invariant in
    passed (exactly_format c.args.count u32_format) (exactly_alone u32_format u32_alone c.args.count) _ _ _ _ c.from_residual.ensures.1
    (exactly_err u32_format u32_alone c.loop.signers c.args.count _ _ _ _ (omega arith) l.fits l.read (met c.in_err-read_u32.ensures.reads))

pub returns-in_err-push : goal.returns-in_err-push
returns-in_err-push c =
    passed (exactly_format c.args.count u32_format) (exactly_alone u32_format u32_alone c.args.count) _ _ _ _ c.from_residual-in_err-push.ensures.1
    (exactly_memory u32_format u32_alone c.loop.signers c.args.count _ _ _ c.loop.invariant.read c.in_ok-read_u32.ensures.reads.taken)

pub returns : goal.returns
returns c =
    let l = c.loop.invariant in
    let all : length c.loop.signers ≡ c.args.count = omega arith in
    reads (exactly_format c.args.count u32_format) (exactly_alone u32_format u32_alone c.args.count) _ _ _
    (exactly_ok u32_format u32_alone c.loop.signers c.args.count _ _ all l.fits l.read)
