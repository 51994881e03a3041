use Rattle.std.proofs.Common.{arith}
use Rattle.stateful_base.specs.Number.{height_format}
use Rattle.stateful_base.specs.Digest.{digest_format}
use Rattle.stateful_base.proofs.Formats.{met, both_ok, first_err, second_err}
use Rattle.stateful_types.proofs.Tags.{tag_err, tag_wrong, tag_is, case_ok, case_err}
use Rattle.stateful_base.proofs.Values.{height_alone, digest_alone}
use Rattle.stateful_sync_plan.proofs.States.{state_tags, floor_case, height_case, recorded_case}
use Rattle.stateful_sync_plan.proofs.state.SyncState.read.Goals as goal

pub returns-in_err-other : goal.returns-in_err-other
returns-in_err-other g c = tag_err (state_tags g.S.Scheme.certificates g.met.S.Scheme.lawful) c.from_residual.ensures.1 c.in_err-other.ensures.reads

pub returns-in_err-read-in-0 : goal.returns-in_err-read-in-0
returns-in_err-read-in-0 g c =
    let certificate = g.S.Scheme.certificates in
    let alone = g.met.S.Scheme.lawful in
    case_err (state_tags certificate alone) (floor_case certificate alone) c.from_residual-in_err-read-in-0.ensures.1
    (tag_is c.in-0.is c.in_ok-other.ensures.reads) (met c.in_err-read-in-0.ensures)

pub returns-in_err-height-in-1 : goal.returns-in_err-height-in-1
returns-in_err-height-in-1 g c =
    let certificate = g.S.Scheme.certificates in
    let alone = g.met.S.Scheme.lawful in
    case_err (state_tags certificate alone) (height_case certificate alone) c.from_residual-in_err-height-in-1.ensures.1
    (tag_is c.in-1.is c.in_ok-other.ensures.reads) (met c.in_err-height-in-1.ensures.reads)

pub returns-in_err-height-in-2 : goal.returns-in_err-height-in-2
returns-in_err-height-in-2 g c =
    let certificate = g.S.Scheme.certificates in
    let alone = g.met.S.Scheme.lawful in
    case_err (state_tags certificate alone) (recorded_case certificate alone) c.from_residual-in_err-height-in-2.ensures.1
    (tag_is c.in-2.is c.in_ok-other.ensures.reads)
    (first_err height_format digest_format height_alone digest_alone _ _ _ (met c.in_err-height-in-2.ensures.reads))

pub returns-in_err-digest-in-2 : goal.returns-in_err-digest-in-2
returns-in_err-digest-in-2 g c =
    let certificate = g.S.Scheme.certificates in
    let alone = g.met.S.Scheme.lawful in
    case_err (state_tags certificate alone) (recorded_case certificate alone) c.from_residual-in_err-digest-in-2.ensures.1
    (tag_is c.in-2.is c.in_ok-other.ensures.reads)
    (second_err height_format digest_format height_alone _ _ _ _ _ (met c.in_ok-height-in-2.ensures.reads) (met c.in_err-digest-in-2.ensures.reads))

pub returns-in_ok-read-in-0 : goal.returns-in_ok-read-in-0
returns-in_ok-read-in-0 g c =
    let certificate = g.S.Scheme.certificates in
    let alone = g.met.S.Scheme.lawful in
    case_ok (state_tags certificate alone) (floor_case certificate alone) (tag_is c.in-0.is c.in_ok-other.ensures.reads) (met c.in_ok-read-in-0.ensures)

pub returns-in_ok-height-in-1 : goal.returns-in_ok-height-in-1
returns-in_ok-height-in-1 g c =
    let certificate = g.S.Scheme.certificates in
    let alone = g.met.S.Scheme.lawful in
    case_ok (state_tags certificate alone) (height_case certificate alone) (tag_is c.in-1.is c.in_ok-other.ensures.reads) (met c.in_ok-height-in-1.ensures.reads)

pub returns-in_ok-digest-in-2 : goal.returns-in_ok-digest-in-2
returns-in_ok-digest-in-2 g c =
    let certificate = g.S.Scheme.certificates in
    let alone = g.met.S.Scheme.lawful in
    case_ok (state_tags certificate alone) (recorded_case certificate alone) (tag_is c.in-2.is c.in_ok-other.ensures.reads)
    (both_ok height_format digest_format height_alone _ _ _ _ _ (met c.in_ok-height-in-2.ensures.reads) (met c.in_ok-digest-in-2.ensures.reads))

pub returns-in_default : goal.returns-in_default
returns-in_default g c = tag_wrong (state_tags g.S.Scheme.certificates g.met.S.Scheme.lawful) (λ is. absurd (omega arith)) c.in_ok-other.ensures.reads
