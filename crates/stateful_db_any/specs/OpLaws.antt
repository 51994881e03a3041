-- Operations of a log of keys are a format where keys and values are.
use Rattle.std.proofs.Common.{◌≡◌, [], ◌∷◌, ◌++◌, refl, lit<, inl, inr}
use Rattle.std.specs.Prelude.{◌⊎◌, Option, Some, None}
use Rattle.stateful_base.specs.Format.{Format, IsFormat}
use Rattle.stateful_base.specs.FormatLaws.{Rest, both, IsFormat-both}
use Rattle.stateful_types.specs.Cases.{nothing, tagged, either, two_cases, IsTaggedBy}
use Rattle.stateful_types.specs.CasesLaws.{nothing_alone, HasTwoCases, two_tags, first_case}
use Rattle.stateful_types.specs.CasesLaws.{second_case, HasThreeCases, three_tags, first_of_three}
use Rattle.stateful_types.specs.CasesLaws.{second_of_three, third_of_three}
use Rattle.stateful_db_any.specs.declared.op.AnyOp.{AnyOp}
use Rattle.stateful_db_any.specs.declared.op.AnyOp.TheVariants.{Commit, Update, Delete}
use Rattle.stateful_db_any.specs.OpFormat.{metadata_fits, metadata_format, any_fits, any_format}

-- ---- the metadata of a commit

module _ {V : Type 0} (value : Format V) (law : IsFormat value) where
  abbrev pub to_metadata : Unit {0} ⊎ V → Option V
  to_metadata (inl none) = None
  to_metadata (inr metadata) = Some metadata

  pub metadata_cases : HasTwoCases (metadata_format value) 0 nothing 1 value to_metadata
  metadata_cases = record {
    names = record {
      fits = elim [ inl none ↦ λ fits. fits | inr metadata ↦ λ fits. fits ];
      spelled = elim [ inl none ↦ λ fits. refl | inr metadata ↦ λ fits. refl ];
      back = λ x bytes fits e. back x fits;
    };
    up = lit< tt;
    byte = lit< tt;
    first = nothing_alone;
    second = law;
  } where
    back : (x : Option V)
        → metadata_fits value x
        → (p : Unit {0} ⊎ V) × (two_cases 0 nothing 1 value).fits p × (x ≡ to_metadata p)
    back None fits = (inl tt, fits, refl)
    back (Some metadata) fits = (inr metadata, fits, refl)

  pub metadata_tags : IsTaggedBy (metadata_format value) (λ n. (n ≡ 0) ⊎ (n ≡ 1))
  metadata_tags = two_tags metadata_cases

  pub none_case : Rest (metadata_format value) (0 ∷ []) nothing (λ none. None)
  none_case = first_case metadata_cases

  pub some_case : Rest (metadata_format value) (1 ∷ []) value (λ metadata. Some metadata)
  some_case = second_case metadata_cases

-- ---- operations

module _ {K V : Type 0} (key : Format K) (value : Format V) (key_law : IsFormat key)
    (value_law : IsFormat value) where
  abbrev pub to_op : Option V ⊎ ((K × V) ⊎ K) → AnyOp K V
  to_op (inl metadata) = Commit metadata
  to_op (inr (inl p)) = Update p.0 p.1
  to_op (inr (inr k)) = Delete k

  abbrev pub cases : Format (Option V ⊎ ((K × V) ⊎ K))
  cases = either (tagged 0 (metadata_format value)) (two_cases 1 (both key value) 2 key)

  pub op_cases : HasThreeCases (any_format key value) 0 (metadata_format value) 1
      (both key value) 2 key to_op
  op_cases = record {
    names = record {
      fits = fits;
      spelled = spelled;
      back = λ op bytes fits e. back op fits;
    };
    up = lit< tt;
    further = lit< tt;
    byte = lit< tt;
    first = (metadata_tags value value_law).law;
    second = IsFormat-both key value key_law value_law;
    third = key_law;
  } where
    fits : (p : Option V ⊎ ((K × V) ⊎ K)) → cases.fits p → any_fits key value (to_op p)
    fits (inl metadata) it = it
    fits (inr (inl p)) it = it
    fits (inr (inr k)) it = it

    spelled : (p : Option V ⊎ ((K × V) ⊎ K))
        → cases.fits p
        → (any_format key value).spelling (to_op p) ≡ [] ++ cases.spelling p
    spelled (inl None) it = refl
    spelled (inl (Some metadata)) it = refl
    spelled (inr (inl p)) it = refl
    spelled (inr (inr k)) it = refl

    back : (op : AnyOp K V)
        → any_fits key value op
        → (p : Option V ⊎ ((K × V) ⊎ K)) × cases.fits p × (op ≡ to_op p)
    back (Commit metadata) it = (inl metadata, it, refl)
    back (Update k v) it = (inr (inl (k, v)), it, refl)
    back (Delete k) it = (inr (inr k), it, refl)

  pub op_tags : IsTaggedBy (any_format key value) (λ n. (n ≡ 0) ⊎ ((n ≡ 1) ⊎ (n ≡ 2)))
  op_tags = three_tags op_cases

  pub commit_case : Rest (any_format key value) (0 ∷ []) (metadata_format value)
      (λ metadata. Commit metadata)
  commit_case = first_of_three op_cases

  pub update_case : Rest (any_format key value) (1 ∷ []) (both key value) (λ p. Update p.0 p.1)
  update_case = second_of_three op_cases

  pub delete_case : Rest (any_format key value) (2 ∷ []) key (λ k. Delete k)
  delete_case = third_of_three op_cases

  -- no operation's bytes begin another's
  pub any_alone : IsFormat (any_format key value)
  any_alone = op_tags.law
