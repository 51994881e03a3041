use Rattle.std.proofs.Common.{◌≡◌, true, arith}
use Rattle.stateful_base.specs.Digest.{digest_format}
use Rattle.stateful_base.proofs.Formats.{met, taken_then, both_ok, first_err, second_err}
use Rattle.stateful_types.proofs.Tags.{tag_err, tag_wrong, tag_is, case_ok, case_err}
use Rattle.stateful_base.proofs.Values.{digest_alone}
use Rattle.stateful_types.proofs.Counted.{count_err, items_met}
use Rattle.stateful_types.proofs.Responses.{response_tags, operations_case, boundary_case, untagged, uncounted, beyond}
use Rattle.stateful_types.proofs.response.Response.read.Goals as goal

pub returns-in_err-tag-clause-too_many : goal.returns-in_err-tag-clause-too_many
returns-in_err-tag-clause-too_many g c = λ count many. untagged c.args.request.now count _ _ _ _ _ many c.from_residual.ensures.1 c.in_err-tag.ensures.reads

pub returns-in_err-tag-clause-otherwise : goal.returns-in_err-tag-clause-otherwise
returns-in_err-tag-clause-otherwise g c =
    let op = g.Op.Operation.operations in
    let alone = g.met.Op.Operation.lawful in
    λ _. tag_err (response_tags op alone) c.from_residual.ensures.1 c.in_err-tag.ensures.reads

pub returns-in_err-count-in-0-clause-too_many : goal.returns-in_err-count-in-0-clause-too_many
returns-in_err-count-in-0-clause-too_many g c =
    λ count many. uncounted c.args.request.now count _ _ _ _ _ _ many (tag_is c.in-0.is c.in_ok-tag.ensures.reads) c.from_residual-in_err-count-in-0.ensures.1 c.in_err-count-in-0.ensures.reads

pub returns-in_err-count-in-0-clause-otherwise : goal.returns-in_err-count-in-0-clause-otherwise
returns-in_err-count-in-0-clause-otherwise g c =
    let op = g.Op.Operation.operations in
    let alone = g.met.Op.Operation.lawful in
    λ _. case_err (response_tags op alone) (operations_case op alone) c.from_residual-in_err-count-in-0.ensures.1 (tag_is c.in-0.is c.in_ok-tag.ensures.reads)
    (count_err op alone _ _ _ (met c.in_err-count-in-0.ensures.reads))

pub returns-then-not-allows-clause-otherwise : goal.returns-then-not-allows-clause-otherwise
returns-then-not-allows-clause-otherwise g c =
    let tag = tag_is c.in-0.is c.in_ok-tag.ensures.reads in
    λ none. absurd (none c.in_ok-count-in-0.count (beyond c.args.request.now c.in_ok-count-in-0.count _ _ _ tag (met c.in_ok-count-in-0.ensures.reads) (λ allowed. let never : c.allows.result ≡ true = c.allows.ensures.1 allowed in absurd cc)))

pub returns-in_err-operations-in-0-clause-otherwise : goal.returns-in_err-operations-in-0-clause-otherwise
returns-in_err-operations-in-0-clause-otherwise g c =
    let op = g.Op.Operation.operations in
    let alone = g.met.Op.Operation.lawful in
    λ _. case_err (response_tags op alone) (operations_case op alone) c.from_residual-in_err-operations-in-0.ensures.1 (tag_is c.in-0.is c.in_ok-tag.ensures.reads)
    (items_met op alone _ _ _ _ _ (met c.in_ok-count-in-0.ensures.reads) (met c.in_err-operations-in-0.ensures))

pub returns-in_err-before-in-1-clause-otherwise : goal.returns-in_err-before-in-1-clause-otherwise
returns-in_err-before-in-1-clause-otherwise g c =
    let op = g.Op.Operation.operations in
    let alone = g.met.Op.Operation.lawful in
    λ _. case_err (response_tags op alone) (boundary_case op alone) c.from_residual-in_err-before-in-1.ensures.1 (tag_is c.in-1.is c.in_ok-tag.ensures.reads)
    (first_err digest_format op digest_alone alone _ _ _ (met c.in_err-before-in-1.ensures.reads))

pub returns-in_err-op-in-1-clause-otherwise : goal.returns-in_err-op-in-1-clause-otherwise
returns-in_err-op-in-1-clause-otherwise g c =
    let op = g.Op.Operation.operations in
    let alone = g.met.Op.Operation.lawful in
    λ _. case_err (response_tags op alone) (boundary_case op alone) c.from_residual-in_err-op-in-1.ensures.1 (tag_is c.in-1.is c.in_ok-tag.ensures.reads)
    (second_err digest_format op digest_alone _ _ _ _ _ (met c.in_ok-before-in-1.ensures.reads) (met c.in_err-op-in-1.ensures))

pub returns-in_ok-operations-in-0-clause-otherwise : goal.returns-in_ok-operations-in-0-clause-otherwise
returns-in_ok-operations-in-0-clause-otherwise g c =
    let op = g.Op.Operation.operations in
    let alone = g.met.Op.Operation.lawful in
    λ _. case_ok (response_tags op alone) (operations_case op alone) (tag_is c.in-0.is c.in_ok-tag.ensures.reads)
    (items_met op alone _ _ _ _ _ (met c.in_ok-count-in-0.ensures.reads) (met c.in_ok-operations-in-0.ensures))

pub returns-in_ok-op-in-1-clause-otherwise : goal.returns-in_ok-op-in-1-clause-otherwise
returns-in_ok-op-in-1-clause-otherwise g c =
    let op = g.Op.Operation.operations in
    let alone = g.met.Op.Operation.lawful in
    λ _. case_ok (response_tags op alone) (boundary_case op alone) (tag_is c.in-1.is c.in_ok-tag.ensures.reads)
    (both_ok digest_format op digest_alone _ _ _ _ _ (met c.in_ok-before-in-1.ensures.reads) (met c.in_ok-op-in-1.ensures))

pub returns-in_default-clause-otherwise : goal.returns-in_default-clause-otherwise
returns-in_default-clause-otherwise g c =
    let op = g.Op.Operation.operations in
    let alone = g.met.Op.Operation.lawful in
    λ _. tag_wrong (response_tags op alone) (λ is. absurd (omega arith)) c.in_ok-tag.ensures.reads

pub returns-in_err-count-in-0-clause-taken : goal.returns-in_err-count-in-0-clause-taken
returns-in_err-count-in-0-clause-taken g c = taken_then _ _ _ c.in_ok-tag.ensures.reads.taken c.in_err-count-in-0.ensures.reads.taken

pub returns-then-not-allows-clause-taken : goal.returns-then-not-allows-clause-taken
returns-then-not-allows-clause-taken g c = taken_then _ _ _ c.in_ok-tag.ensures.reads.taken c.in_ok-count-in-0.ensures.reads.taken

pub returns-in_err-operations-in-0-clause-taken : goal.returns-in_err-operations-in-0-clause-taken
returns-in_err-operations-in-0-clause-taken g c = taken_then _ _ _ (taken_then _ _ _ c.in_ok-tag.ensures.reads.taken c.in_ok-count-in-0.ensures.reads.taken) c.in_err-operations-in-0.ensures.taken

pub returns-in_err-before-in-1-clause-taken : goal.returns-in_err-before-in-1-clause-taken
returns-in_err-before-in-1-clause-taken g c = taken_then _ _ _ c.in_ok-tag.ensures.reads.taken c.in_err-before-in-1.ensures.reads.taken

pub returns-in_err-op-in-1-clause-taken : goal.returns-in_err-op-in-1-clause-taken
returns-in_err-op-in-1-clause-taken g c = taken_then _ _ _ (taken_then _ _ _ c.in_ok-tag.ensures.reads.taken c.in_ok-before-in-1.ensures.reads.taken) c.in_err-op-in-1.ensures.taken

pub returns-in_ok-operations-in-0-clause-taken : goal.returns-in_ok-operations-in-0-clause-taken
returns-in_ok-operations-in-0-clause-taken g c = taken_then _ _ _ (taken_then _ _ _ c.in_ok-tag.ensures.reads.taken c.in_ok-count-in-0.ensures.reads.taken) c.in_ok-operations-in-0.ensures.taken

pub returns-in_ok-op-in-1-clause-taken : goal.returns-in_ok-op-in-1-clause-taken
returns-in_ok-op-in-1-clause-taken g c = taken_then _ _ _ (taken_then _ _ _ c.in_ok-tag.ensures.reads.taken c.in_ok-before-in-1.ensures.reads.taken) c.in_ok-op-in-1.ensures.taken
