use Rattle.stateful_base.specs.Number.{u64_format}
use Rattle.stateful_base.specs.Round.{round_format}
use Rattle.stateful_base.proofs.Formats.{met, renamed, renamed_err, both_ok, first_err, second_err}
use Rattle.stateful_base.specs.FixedLaws.{u64_alone}
use Rattle.stateful_base.proofs.Values.{pair_format, pair_alone, to_round, Rest-round}
use Rattle.stateful_base.proofs.round.Round.read.Goals as goal

pub returns-in_err-read_u64-clause-reads : goal.returns-in_err-read_u64-clause-reads
returns-in_err-read_u64-clause-reads c =
    renamed_err round_format pair_format to_round Rest-round pair_alone _ _ _ _ c.from_residual.ensures.1
    (first_err u64_format u64_format u64_alone u64_alone _ _ _ (met c.in_err-read_u64.ensures.reads))

pub returns-in_err-read_u64-2-clause-reads : goal.returns-in_err-read_u64-2-clause-reads
returns-in_err-read_u64-2-clause-reads c =
    renamed_err round_format pair_format to_round Rest-round pair_alone _ _ _ _ c.from_residual-in_err-read_u64-2.ensures.1
    (second_err u64_format u64_format u64_alone _ _ _ _ _ (met c.in_ok-read_u64.ensures.reads) (met c.in_err-read_u64-2.ensures.reads))

pub returns-clause-reads : goal.returns-clause-reads
returns-clause-reads c =
    renamed round_format pair_format to_round Rest-round pair_alone _ _ _
    (both_ok u64_format u64_format u64_alone _ _ _ _ _ (met c.in_ok-read_u64.ensures.reads) (met c.in_ok-read_u64-2.ensures.reads))
