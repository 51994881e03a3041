use Rattle.std.specs.Int.{w8, from_be_bytes}
use Rattle.stateful_base.specs.Number.{bytes_format, u8_format}
use Rattle.stateful_base.proofs.Formats.{met, renamed, renamed_err}
use Rattle.stateful_base.specs.FixedLaws.{bytes_alone, Rest-u8}
use Rattle.stateful_base.proofs.codec.read_u8.Goals as goal

pub returns-in_err-read_array-clause-reads : goal.returns-in_err-read_array-clause-reads
returns-in_err-read_array-clause-reads c = renamed_err u8_format (bytes_format 1) (from_be_bytes w8) Rest-u8 (bytes_alone 1) _ _ _ _ c.from_residual.ensures.1 (met c.in_err-read_array.ensures.reads)

pub returns-clause-reads : goal.returns-clause-reads
returns-clause-reads c = rw c.from_be_bytes.ensures (renamed u8_format (bytes_format 1) (from_be_bytes w8) Rest-u8 (bytes_alone 1) _ _ _ (met c.in_ok-read_array.ensures.reads))
