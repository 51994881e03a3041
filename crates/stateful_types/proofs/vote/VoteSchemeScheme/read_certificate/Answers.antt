use Rattle.stateful_base.specs.Number.{u32_format}
use Rattle.stateful_types.specs.Items.{items_format}
use Rattle.stateful_base.specs.FixedLaws.{u32_alone}
use Rattle.stateful_types.specs.ItemsLaws.{items_alone}
use Rattle.stateful_base.proofs.Formats.{met, reads, passed}
use Rattle.stateful_types.proofs.Counted.{count_err, items_met}
use Rattle.stateful_types.proofs.vote.VoteSchemeScheme.read_certificate.Goals as goal

pub returns-in_err-count : goal.returns-in_err-count
returns-in_err-count c =
    passed (items_format u32_format) (items_alone u32_format u32_alone) _ _ _ _ c.from_residual.ensures.1 (count_err u32_format u32_alone _ _ _ (met c.in_err-count.ensures.reads))

pub returns : goal.returns
returns c =
    reads (items_format u32_format) (items_alone u32_format u32_alone) _ _ _ (items_met u32_format u32_alone _ _ _ _ _ (met c.in_ok-count.ensures.reads) (met c.read_signers.ensures))
