use Rattle.stateful_base.specs.Number.{bytes_format}
use Rattle.stateful_base.specs.Digest.{digest_format}
use Rattle.stateful_base.proofs.Formats.{met, renamed, renamed_err}
use Rattle.stateful_base.specs.FixedLaws.{bytes_alone}
use Rattle.stateful_base.proofs.Values.{to_digest, Rest-digest}
use Rattle.stateful_base.proofs.digest.Digest.read.Goals as goal

pub returns-in_err-read_array-clause-reads : goal.returns-in_err-read_array-clause-reads
returns-in_err-read_array-clause-reads c = renamed_err digest_format (bytes_format 32) to_digest Rest-digest (bytes_alone 32) _ _ _ _ c.from_residual.ensures.1 (met c.in_err-read_array.ensures.reads)

pub returns-clause-reads : goal.returns-clause-reads
returns-clause-reads c = renamed digest_format (bytes_format 32) to_digest Rest-digest (bytes_alone 32) _ _ _ (met c.in_ok-read_array.ensures.reads)
