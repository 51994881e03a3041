use Rattle.std.proofs.Common.{arith}
use Rattle.stateful_base.specs.Number.{u64_format}
use Rattle.stateful_base.specs.FixedLaws.{u64_alone}
use Rattle.stateful_base.proofs.Formats.{met, both_ok, first_err, second_err}
use Rattle.stateful_types.proofs.Tags.{tag_err, tag_wrong, tag_is, case_ok, case_err}
use Rattle.stateful_db_compact.specs.OpFormat.{metadata_format}
use Rattle.stateful_db_compact.specs.OpFormatLaws.{metadata_alone}
use Rattle.stateful_db_compact.proofs.OpFormats.{op_tags, commit_case, append_case}
use Rattle.stateful_db_compact.proofs.codec.KeylessOpOperation.read.Goals as goal

pub returns-in_err-tag : goal.returns-in_err-tag
returns-in_err-tag g c =
    let values = g.V.Field.fields in
    let law = g.met.V.Field.lawful in
    tag_err (op_tags values law) c.from_residual.ensures.1 c.in_err-tag.ensures.reads

pub returns-in_err-metadata-in-0 : goal.returns-in_err-metadata-in-0
returns-in_err-metadata-in-0 g c =
    let values = g.V.Field.fields in
    let law = g.met.V.Field.lawful in
    case_err (op_tags values law) (commit_case values law) c.from_residual-in_err-metadata-in-0.ensures.1 (tag_is c.in-0.is c.in_ok-tag.ensures.reads)
    (first_err (metadata_format values) u64_format (metadata_alone values law) u64_alone _ _ _ (met c.in_err-metadata-in-0.ensures))

pub returns-in_err-floor-in-0 : goal.returns-in_err-floor-in-0
returns-in_err-floor-in-0 g c =
    let values = g.V.Field.fields in
    let law = g.met.V.Field.lawful in
    case_err (op_tags values law) (commit_case values law) c.from_residual-in_err-floor-in-0.ensures.1 (tag_is c.in-0.is c.in_ok-tag.ensures.reads)
    (second_err (metadata_format values) u64_format (metadata_alone values law) _ _ _ _ _ (met c.in_ok-metadata-in-0.ensures) (met c.in_err-floor-in-0.ensures.reads))

pub returns-in_err-value-in-1 : goal.returns-in_err-value-in-1
returns-in_err-value-in-1 g c =
    let values = g.V.Field.fields in
    let law = g.met.V.Field.lawful in
    case_err (op_tags values law) (append_case values law) c.from_residual-in_err-value-in-1.ensures.1 (tag_is c.in-1.is c.in_ok-tag.ensures.reads) (met c.in_err-value-in-1.ensures)

pub returns-in_ok-floor-in-0 : goal.returns-in_ok-floor-in-0
returns-in_ok-floor-in-0 g c =
    let values = g.V.Field.fields in
    let law = g.met.V.Field.lawful in
    case_ok (op_tags values law) (commit_case values law) (tag_is c.in-0.is c.in_ok-tag.ensures.reads)
    (both_ok (metadata_format values) u64_format (metadata_alone values law) _ _ _ _ _ (met c.in_ok-metadata-in-0.ensures) (met c.in_ok-floor-in-0.ensures.reads))

pub returns-in_ok-value-in-1 : goal.returns-in_ok-value-in-1
returns-in_ok-value-in-1 g c =
    let values = g.V.Field.fields in
    let law = g.met.V.Field.lawful in
    case_ok (op_tags values law) (append_case values law) (tag_is c.in-1.is c.in_ok-tag.ensures.reads) (met c.in_ok-value-in-1.ensures)

pub returns-in_default : goal.returns-in_default
returns-in_default g c =
    let values = g.V.Field.fields in
    let law = g.met.V.Field.lawful in
    tag_wrong (op_tags values law) (λ is. absurd (omega arith)) c.in_ok-tag.ensures.reads
