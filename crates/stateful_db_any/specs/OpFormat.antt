-- The format of operations of a log of keys.
use Rattle.std.specs.Prelude.{ℕ, List, [], ◌∷◌, Option, Some, None}
use Rattle.stateful_base.specs.Format.{Format}
use Rattle.stateful_db_any.specs.declared.op.AnyOp.{AnyOp}
use Rattle.stateful_db_any.specs.declared.op.AnyOp.TheVariants.{Commit, Update, Delete}
use Rattle.stateful_db_any.specs.Ops.{op_bytes}

module _ {V : Type 0} (value : Format V) where
  abbrev pub metadata_fits : Option V → Type 0
  metadata_fits None = Unit {0}
  metadata_fits (Some metadata) = value.fits metadata

  abbrev pub metadata_bytes : Option V → List ℕ
  metadata_bytes None = 0 ∷ []
  metadata_bytes (Some metadata) = 1 ∷ value.spelling metadata

  -- byte 0, or byte 1 and the metadata
  abbrev pub metadata_format : Format (Option V)
  metadata_format = record { fits = metadata_fits; spelling = metadata_bytes }

module _ {K V : Type 0} (key : Format K) (value : Format V) where
  abbrev pub any_fits : AnyOp K V → Type 0
  any_fits (Commit metadata) = metadata_fits value metadata
  any_fits (Update k v) = key.fits k × value.fits v
  any_fits (Delete k) = key.fits k

  -- byte 0 and the metadata, byte 1 with the key and the value, or byte 2 and the key
  abbrev pub any_format : Format (AnyOp K V)
  any_format = record { fits = any_fits; spelling = op_bytes key.spelling value.spelling }
