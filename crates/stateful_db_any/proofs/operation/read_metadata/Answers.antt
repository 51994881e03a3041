use Rattle.std.proofs.Common.{arith}
use Rattle.stateful_base.proofs.Formats.{met}
use Rattle.stateful_types.proofs.Tags.{tag_err, tag_wrong, tag_is, nothing_met, case_ok, case_err}
use Rattle.stateful_db_any.specs.OpLaws.{metadata_tags, none_case, some_case}
use Rattle.stateful_db_any.proofs.operation.read_metadata.Goals as goal

pub returns-in_err-tag : goal.returns-in_err-tag
returns-in_err-tag g c =
    tag_err (metadata_tags g.V.Field.fields g.met.V.Field.lawful) c.from_residual.ensures.1 c.in_err-tag.ensures.reads

pub returns-in-0 : goal.returns-in-0
returns-in-0 g c =
    let value = g.V.Field.fields in
    let law = g.met.V.Field.lawful in
    case_ok (metadata_tags value law) (none_case value law) (tag_is c.in-0.is c.in_ok-tag.ensures.reads) nothing_met

pub returns-in_err-metadata-in-1 : goal.returns-in_err-metadata-in-1
returns-in_err-metadata-in-1 g c =
    let value = g.V.Field.fields in
    let law = g.met.V.Field.lawful in
    case_err (metadata_tags value law) (some_case value law) c.from_residual-in_err-metadata-in-1.ensures.1 (tag_is c.in-1.is c.in_ok-tag.ensures.reads) (met c.in_err-metadata-in-1.ensures)

pub returns-in_ok-metadata-in-1 : goal.returns-in_ok-metadata-in-1
returns-in_ok-metadata-in-1 g c =
    let value = g.V.Field.fields in
    let law = g.met.V.Field.lawful in
    case_ok (metadata_tags value law) (some_case value law) (tag_is c.in-1.is c.in_ok-tag.ensures.reads) (met c.in_ok-metadata-in-1.ensures)

pub returns-in_default : goal.returns-in_default
returns-in_default g c = tag_wrong (metadata_tags g.V.Field.fields g.met.V.Field.lawful) (λ is. absurd (omega arith)) c.in_ok-tag.ensures.reads
