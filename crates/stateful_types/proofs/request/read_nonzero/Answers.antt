use Rattle.stateful_base.specs.Number.{nonzero_format}
use Rattle.stateful_base.proofs.Formats.{met, reads, passed}
use Rattle.stateful_types.proofs.Requests.{nonzero_alone, nonzero_ok, nonzero_err, nonzero_zero}
use Rattle.stateful_types.proofs.request.read_nonzero.Goals as goal

pub returns-in_err-read_u64-clause-reads : goal.returns-in_err-read_u64-clause-reads
returns-in_err-read_u64-clause-reads c = passed nonzero_format nonzero_alone _ _ _ _ c.from_residual.ensures.1 (nonzero_err _ _ _ (met c.in_err-read_u64.ensures.reads))

pub returns-in-Some-clause-reads : goal.returns-in-Some-clause-reads
returns-in-Some-clause-reads c = reads nonzero_format nonzero_alone _ _ _ (nonzero_ok _ _ _ _ c.in-Some.ensures (met c.in_ok-read_u64.ensures.reads))

pub returns-in-None-clause-reads : goal.returns-in-None-clause-reads
returns-in-None-clause-reads c = reads nonzero_format nonzero_alone _ _ _ (nonzero_zero _ _ _ c.in-None.ensures (met c.in_ok-read_u64.ensures.reads))
