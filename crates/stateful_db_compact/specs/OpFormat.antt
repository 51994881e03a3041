-- Which operations of a keyless log have bytes, by which of its values have some.
use Rattle.std.specs.Prelude.{Option, Some, None}
use Rattle.stateful_base.specs.Format.{Format}
use Rattle.stateful_base.specs.Number.{u64_format}
use Rattle.stateful_db_compact.specs.declared.op.KeylessOp.{KeylessOp}
use Rattle.stateful_db_compact.specs.declared.op.KeylessOp.TheVariants.{Commit, Append}
use Rattle.stateful_db_compact.specs.Ops.{metadata_bytes, op_bytes}

module _ {V : Type 0} (values : Format V) where
  abbrev pub metadata_fits : Option V → Type 0
  metadata_fits None = Unit {0}
  metadata_fits (Some metadata) = values.fits metadata

  abbrev pub metadata_format : Format (Option V)
  metadata_format =
      record { fits = metadata_fits; spelling = metadata_bytes values.spelling }

  abbrev pub keyless_fits : KeylessOp V → Type 0
  keyless_fits (Commit metadata floor) = metadata_fits metadata × u64_format.fits floor
  keyless_fits (Append value) = values.fits value

  abbrev pub keyless_format : Format (KeylessOp V)
  keyless_format = record { fits = keyless_fits; spelling = op_bytes values.spelling }
