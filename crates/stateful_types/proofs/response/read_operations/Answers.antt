use Rattle.std.proofs.Common.{◌≡◌, length, arith}
use Rattle.stateful_types.specs.Items.{exactly_format}
use Rattle.stateful_base.proofs.Formats.{met, reads, passed}
use Rattle.stateful_types.specs.ItemsLaws.{exactly_alone}
use Rattle.stateful_types.proofs.Counted.{exactly_err, exactly_ok, exactly_memory}
use Rattle.stateful_types.proofs.response.read_operations.Goals as goal

pub returns-in_err-read : goal.returns-in_err-read
returns-in_err-read g c =
    let op = g.Op.Operation.operations in
    let alone = g.met.Op.Operation.lawful in
    let l = c.loop.invariant in
    passed (exactly_format c.args.count op) (exactly_alone op alone c.args.count) _ _ _ _ c.from_residual.ensures.1
    (exactly_err op alone c.loop.operations c.args.count _ _ _ _ (omega arith) l.fits l.read (met c.in_err-read.ensures))

pub returns-in_err-push : goal.returns-in_err-push
returns-in_err-push g c =
    let op = g.Op.Operation.operations in
    let alone = g.met.Op.Operation.lawful in
    passed (exactly_format c.args.count op) (exactly_alone op alone c.args.count) _ _ _ _ c.from_residual-in_err-push.ensures.1
    (exactly_memory op alone c.loop.operations c.args.count _ _ _ c.loop.invariant.read c.in_ok-read.ensures.taken)

pub returns : goal.returns
returns g c =
    let op = g.Op.Operation.operations in
    let alone = g.met.Op.Operation.lawful in
    let l = c.loop.invariant in
    let all : length c.loop.operations ≡ c.args.count = omega arith in
    reads (exactly_format c.args.count op) (exactly_alone op alone c.args.count) _ _ _
    (exactly_ok op alone c.loop.operations c.args.count _ _ all l.fits l.read)
