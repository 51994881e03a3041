use Rattle.std.proofs.Common.{arith}
use Rattle.stateful_base.proofs.Formats.{met, both_ok, first_err, second_err}
use Rattle.stateful_types.proofs.Tags.{tag_err, tag_wrong, tag_is, case_ok, case_err}
use Rattle.stateful_db_any.specs.OpLaws.{op_tags, commit_case, update_case, delete_case}
use Rattle.stateful_db_any.proofs.operation.AnyOpOperation.read.Goals as goal

pub returns-in_err-tag : goal.returns-in_err-tag
returns-in_err-tag g c =
    tag_err (op_tags g.K.Field.fields g.V.Field.fields g.met.K.Field.lawful g.met.V.Field.lawful) c.from_residual.ensures.1 c.in_err-tag.ensures.reads

pub returns-in_err-metadata-in-0 : goal.returns-in_err-metadata-in-0
returns-in_err-metadata-in-0 g c =
    let key = g.K.Field.fields in
    let value = g.V.Field.fields in
    let key_law = g.met.K.Field.lawful in
    let value_law = g.met.V.Field.lawful in
    case_err (op_tags key value key_law value_law) (commit_case key value key_law value_law) c.from_residual-in_err-metadata-in-0.ensures.1 (tag_is c.in-0.is c.in_ok-tag.ensures.reads)
    (met c.in_err-metadata-in-0.ensures)

pub returns-in_ok-metadata-in-0 : goal.returns-in_ok-metadata-in-0
returns-in_ok-metadata-in-0 g c =
    let key = g.K.Field.fields in
    let value = g.V.Field.fields in
    let key_law = g.met.K.Field.lawful in
    let value_law = g.met.V.Field.lawful in
    case_ok (op_tags key value key_law value_law) (commit_case key value key_law value_law) (tag_is c.in-0.is c.in_ok-tag.ensures.reads) (met c.in_ok-metadata-in-0.ensures)

pub returns-in_err-key-in-1 : goal.returns-in_err-key-in-1
returns-in_err-key-in-1 g c =
    let key = g.K.Field.fields in
    let value = g.V.Field.fields in
    let key_law = g.met.K.Field.lawful in
    let value_law = g.met.V.Field.lawful in
    case_err (op_tags key value key_law value_law) (update_case key value key_law value_law) c.from_residual-in_err-key-in-1.ensures.1 (tag_is c.in-1.is c.in_ok-tag.ensures.reads)
    (first_err key value key_law value_law _ _ _ (met c.in_err-key-in-1.ensures))

pub returns-in_err-value-in-1 : goal.returns-in_err-value-in-1
returns-in_err-value-in-1 g c =
    let key = g.K.Field.fields in
    let value = g.V.Field.fields in
    let key_law = g.met.K.Field.lawful in
    let value_law = g.met.V.Field.lawful in
    case_err (op_tags key value key_law value_law) (update_case key value key_law value_law) c.from_residual-in_err-value-in-1.ensures.1 (tag_is c.in-1.is c.in_ok-tag.ensures.reads)
    (second_err key value key_law _ _ _ _ _ (met c.in_ok-key-in-1.ensures) (met c.in_err-value-in-1.ensures))

pub returns-in_ok-value-in-1 : goal.returns-in_ok-value-in-1
returns-in_ok-value-in-1 g c =
    let key = g.K.Field.fields in
    let value = g.V.Field.fields in
    let key_law = g.met.K.Field.lawful in
    let value_law = g.met.V.Field.lawful in
    case_ok (op_tags key value key_law value_law) (update_case key value key_law value_law) (tag_is c.in-1.is c.in_ok-tag.ensures.reads)
    (both_ok key value key_law _ _ _ _ _ (met c.in_ok-key-in-1.ensures) (met c.in_ok-value-in-1.ensures))

pub returns-in_err-key-in-2 : goal.returns-in_err-key-in-2
returns-in_err-key-in-2 g c =
    let key = g.K.Field.fields in
    let value = g.V.Field.fields in
    let key_law = g.met.K.Field.lawful in
    let value_law = g.met.V.Field.lawful in
    case_err (op_tags key value key_law value_law) (delete_case key value key_law value_law) c.from_residual-in_err-key-in-2.ensures.1 (tag_is c.in-2.is c.in_ok-tag.ensures.reads)
    (met c.in_err-key-in-2.ensures)

pub returns-in_ok-key-in-2 : goal.returns-in_ok-key-in-2
returns-in_ok-key-in-2 g c =
    let key = g.K.Field.fields in
    let value = g.V.Field.fields in
    let key_law = g.met.K.Field.lawful in
    let value_law = g.met.V.Field.lawful in
    case_ok (op_tags key value key_law value_law) (delete_case key value key_law value_law) (tag_is c.in-2.is c.in_ok-tag.ensures.reads) (met c.in_ok-key-in-2.ensures)

pub returns-in_default : goal.returns-in_default
returns-in_default g c =
    tag_wrong (op_tags g.K.Field.fields g.V.Field.fields g.met.K.Field.lawful g.met.V.Field.lawful) (λ is. absurd (omega arith)) c.in_ok-tag.ensures.reads
