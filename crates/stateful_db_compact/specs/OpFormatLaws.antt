-- No bytes of an operation of a keyless log begin another's.
use Rattle.std.proofs.Common.{◌≡◌, ℕ, Option, Some, None, refl, inl, inr, lit<}
use Rattle.std.specs.Prelude.{◌⊎◌}
use Rattle.stateful_base.specs.Format.{Format, IsFormat}
use Rattle.stateful_base.specs.FormatLaws.{both, IsFormat-both}
use Rattle.stateful_base.specs.FixedLaws.{u64_alone}
use Rattle.stateful_base.specs.Number.{u64_format}
use Rattle.stateful_types.specs.Cases.{nothing, two_cases}
use Rattle.stateful_types.specs.CasesLaws.{HasTwoCases, two_tags, nothing_alone}
use Rattle.stateful_db_compact.specs.declared.op.KeylessOp.{KeylessOp}
use Rattle.stateful_db_compact.specs.declared.op.KeylessOp.TheVariants.{Commit, Append}
use Rattle.stateful_db_compact.specs.OpFormat.{metadata_fits, metadata_format}
use Rattle.stateful_db_compact.specs.OpFormat.{keyless_fits, keyless_format}

module _ {V : Type 0} (values : Format V) where
  -- metadata and a floor
  abbrev pub commit_format : Format (Option V × ℕ)
  commit_format = both (metadata_format values) u64_format

  abbrev pub to_metadata : Unit {0} ⊎ V → Option V
  to_metadata (inl none) = None
  to_metadata (inr metadata) = Some metadata

  abbrev pub to_op : (Option V × ℕ) ⊎ V → KeylessOp V
  to_op (inl p) = Commit p.0 p.1
  to_op (inr value) = Append value

  module _ (law : IsFormat values) where
    pub metadata_cases : HasTwoCases (metadata_format values) 0 nothing 1 values to_metadata
    metadata_cases = record {
      names =
          record {
            fits =
                elim [ inl p ↦ λ fits. fits | inr p ↦ λ fits. fits ];
            spelled =
                elim [ inl p ↦ λ fits. refl | inr p ↦ λ fits. refl ];
            back = λ x bytes fits e. back x fits;
          };
      up = lit< tt;
      byte = lit< tt;
      first = nothing_alone;
      second = law;
    } where
      back : (x : Option V)
          → metadata_fits values x
          → (p : Unit {0} ⊎ V) × (two_cases 0 nothing 1 values).fits p × (x ≡ to_metadata p)
      back None fits = (inl tt, tt, refl)
      back (Some metadata) fits = (inr metadata, fits, refl)

    pub metadata_alone : IsFormat (metadata_format values)
    metadata_alone = (two_tags metadata_cases).law

    pub commit_alone : IsFormat commit_format
    commit_alone = IsFormat-both (metadata_format values) u64_format metadata_alone u64_alone

    pub op_cases : HasTwoCases (keyless_format values) 0 commit_format 1 values to_op
    op_cases = record {
      names =
          record {
            fits =
                elim [ inl p ↦ λ fits. fits | inr p ↦ λ fits. fits ];
            spelled =
                elim [ inl p ↦ λ fits. refl | inr p ↦ λ fits. refl ];
            back = λ x bytes fits e. back x fits;
          };
      up = lit< tt;
      byte = lit< tt;
      first = commit_alone;
      second = law;
    } where
      back : (x : KeylessOp V)
          → keyless_fits values x
          → (p : (Option V × ℕ) ⊎ V)
          × (two_cases 0 commit_format 1 values).fits p
          × (x ≡ to_op p)
      back (Commit metadata floor) fits = (inl (metadata, floor), fits, refl)
      back (Append value) fits = (inr value, fits, refl)

    pub keyless_alone : IsFormat (keyless_format values)
    keyless_alone = (two_tags op_cases).law
