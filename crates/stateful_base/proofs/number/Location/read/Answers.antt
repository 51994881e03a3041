use Rattle.stateful_base.specs.Number.{u64_format, location_format}
use Rattle.stateful_base.proofs.Formats.{met, renamed, renamed_err}
use Rattle.stateful_base.specs.FixedLaws.{u64_alone}
use Rattle.stateful_base.proofs.Values.{to_location, Rest-location}
use Rattle.stateful_base.proofs.number.Location.read.Goals as goal

pub returns-in_err-read_u64-clause-reads : goal.returns-in_err-read_u64-clause-reads
returns-in_err-read_u64-clause-reads c = renamed_err location_format u64_format to_location Rest-location u64_alone _ _ _ _ c.from_residual.ensures.1 (met c.in_err-read_u64.ensures.reads)

pub returns-clause-reads : goal.returns-clause-reads
returns-clause-reads c = renamed location_format u64_format to_location Rest-location u64_alone _ _ _ (met c.in_ok-read_u64.ensures.reads)
