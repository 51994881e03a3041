use Rattle.stateful_base.specs.Number.{location_format, nonzero_format}
use Rattle.std.proofs.Common.{arith}
use Rattle.stateful_base.proofs.Formats.{met, both_ok, first_err, second_err}
use Rattle.stateful_types.proofs.Tags.{tag_err, tag_wrong, tag_is, case_ok, case_err}
use Rattle.stateful_base.proofs.Values.{location_alone}
use Rattle.stateful_types.proofs.Requests.{nonzero_alone, range_format, range_alone, request_tags, operations_case, boundary_case}
use Rattle.stateful_types.proofs.request.Request.read.Goals as goal

pub returns-in_err-tag-clause-reads : goal.returns-in_err-tag-clause-reads
returns-in_err-tag-clause-reads c = tag_err request_tags c.from_residual.ensures.1 c.in_err-tag.ensures.reads

pub returns-in_err-size-in-0-clause-reads : goal.returns-in_err-size-in-0-clause-reads
returns-in_err-size-in-0-clause-reads c =
    case_err request_tags operations_case c.from_residual-in_err-size-in-0.ensures.1 (tag_is c.in-0.is c.in_ok-tag.ensures.reads)
    (first_err range_format nonzero_format range_alone nonzero_alone _ _ _
    (first_err location_format location_format location_alone location_alone _ _ _ (met c.in_err-size-in-0.ensures.reads)))

pub returns-in_err-start-in-0-clause-reads : goal.returns-in_err-start-in-0-clause-reads
returns-in_err-start-in-0-clause-reads c =
    case_err request_tags operations_case c.from_residual-in_err-start-in-0.ensures.1 (tag_is c.in-0.is c.in_ok-tag.ensures.reads)
    (first_err range_format nonzero_format range_alone nonzero_alone _ _ _
    (second_err location_format location_format location_alone _ _ _ _ _ (met c.in_ok-size-in-0.ensures.reads) (met c.in_err-start-in-0.ensures.reads)))

pub returns-in_err-max_ops-in-0-clause-reads : goal.returns-in_err-max_ops-in-0-clause-reads
returns-in_err-max_ops-in-0-clause-reads c =
    case_err request_tags operations_case c.from_residual-in_err-max_ops-in-0.ensures.1 (tag_is c.in-0.is c.in_ok-tag.ensures.reads)
    (second_err range_format nonzero_format range_alone _ _ _ _ _
    (both_ok location_format location_format location_alone _ _ _ _ _ (met c.in_ok-size-in-0.ensures.reads) (met c.in_ok-start-in-0.ensures.reads))
    (met c.in_err-max_ops-in-0.ensures.reads))

pub returns-in_err-size-in-1-clause-reads : goal.returns-in_err-size-in-1-clause-reads
returns-in_err-size-in-1-clause-reads c =
    case_err request_tags boundary_case c.from_residual-in_err-size-in-1.ensures.1 (tag_is c.in-1.is c.in_ok-tag.ensures.reads)
    (first_err location_format location_format location_alone location_alone _ _ _ (met c.in_err-size-in-1.ensures.reads))

pub returns-in_err-start-in-1-clause-reads : goal.returns-in_err-start-in-1-clause-reads
returns-in_err-start-in-1-clause-reads c =
    case_err request_tags boundary_case c.from_residual-in_err-start-in-1.ensures.1 (tag_is c.in-1.is c.in_ok-tag.ensures.reads)
    (second_err location_format location_format location_alone _ _ _ _ _ (met c.in_ok-size-in-1.ensures.reads) (met c.in_err-start-in-1.ensures.reads))

pub returns-in_ok-max_ops-in-0-clause-reads : goal.returns-in_ok-max_ops-in-0-clause-reads
returns-in_ok-max_ops-in-0-clause-reads c =
    case_ok request_tags operations_case (tag_is c.in-0.is c.in_ok-tag.ensures.reads)
    (both_ok range_format nonzero_format range_alone _ _ _ _ _
    (both_ok location_format location_format location_alone _ _ _ _ _ (met c.in_ok-size-in-0.ensures.reads) (met c.in_ok-start-in-0.ensures.reads))
    (met c.in_ok-max_ops-in-0.ensures.reads))

pub returns-in_ok-start-in-1-clause-reads : goal.returns-in_ok-start-in-1-clause-reads
returns-in_ok-start-in-1-clause-reads c =
    case_ok request_tags boundary_case (tag_is c.in-1.is c.in_ok-tag.ensures.reads)
    (both_ok location_format location_format location_alone _ _ _ _ _ (met c.in_ok-size-in-1.ensures.reads) (met c.in_ok-start-in-1.ensures.reads))

pub returns-in_default-clause-reads : goal.returns-in_default-clause-reads
returns-in_default-clause-reads c = tag_wrong request_tags (λ is. absurd (omega arith)) c.in_ok-tag.ensures.reads
