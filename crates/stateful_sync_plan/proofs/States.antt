-- The format of states, by its three cases.
use Rattle.std.proofs.Common.{◌≡◌, Some, None, [], ◌∷◌, refl, inl, inr, lit<}
use Rattle.std.specs.Prelude.{◌⊎◌}
use Rattle.stateful_base.specs.declared.finalization.Finalization.{Finalization}
use Rattle.stateful_base.specs.declared.number.Height.{Height}
use Rattle.stateful_base.specs.declared.digest.Digest.{Digest}
use Rattle.stateful_base.specs.Format.{Format, IsFormat}
use Rattle.stateful_base.specs.FormatLaws.{Rest, both, IsFormat-both}
use Rattle.stateful_types.specs.Cases.{tagged, either, two_cases, IsTaggedBy}
use Rattle.stateful_types.specs.CasesLaws.{HasThreeCases, three_tags, first_of_three, second_of_three, third_of_three}
use Rattle.stateful_base.specs.Number.{height_format}
use Rattle.stateful_base.specs.Digest.{digest_format}
use Rattle.stateful_base.specs.Finalization.{finalization_format}
use Rattle.stateful_base.proofs.Values.{height_alone, digest_alone, finalization_alone}
use Rattle.stateful_sync_plan.specs.State.{state_fits, state_format}
use Rattle.stateful_sync_plan.specs.declared.state.SyncState.{SyncState}
use Rattle.stateful_sync_plan.specs.declared.state.SyncState.TheVariants.{InProgress, Complete}

-- a height, and the digest behind it
abbrev pub recorded_format : Format (Height × Digest)
recorded_format = both height_format digest_format

module _ {C : Type 0} (certificate : Format C) where
  abbrev pub cases_format : Format (Finalization C ⊎ (Height ⊎ (Height × Digest)))
  cases_format = either (tagged 0 (finalization_format certificate)) (two_cases 1 height_format 2 recorded_format)

module _ {S K C : Type 0} (certificate : Format C) where
  abbrev pub to_state : Finalization C ⊎ (Height ⊎ (Height × Digest)) → SyncState S K C
  to_state (inl f) = InProgress f
  to_state (inr (inl height)) = Complete height None
  to_state (inr (inr p)) = Complete p.0 (Some p.1)

  module _ (law : IsFormat certificate) where
    pub state_cases : HasThreeCases (state_format {S = S} {K = K} certificate) 0 (finalization_format certificate) 1 height_format 2 recorded_format to_state
    state_cases = record {
      names = record {
        fits = elim [ inl f ↦ λ fits. fits | inr p ↦ elim p as (λ q. (cases_format certificate).fits (inr q) → (state_format {S = S} {K = K} certificate).fits (to_state (inr q))) [ inl height ↦ λ fits. fits | inr r ↦ λ fits. fits ] ];
        spelled = elim [ inl f ↦ λ fits. refl | inr p ↦ elim p as (λ q. (cases_format certificate).fits (inr q) → (state_format {S = S} {K = K} certificate).spelling (to_state (inr q)) ≡ (cases_format certificate).spelling (inr q)) [ inl height ↦ λ fits. refl | inr r ↦ λ fits. refl ] ];
        back = λ x bytes fits e. back x fits;
      };
      up = lit< tt;
      further = lit< tt;
      byte = lit< tt;
      first = finalization_alone certificate law;
      second = height_alone;
      third = IsFormat-both height_format digest_format height_alone digest_alone;
    } where
      back : (x : SyncState S K C) → state_fits certificate x → (p : Finalization C ⊎ (Height ⊎ (Height × Digest))) × (cases_format certificate).fits p × (x ≡ to_state p)
      back (InProgress f) fits = (inl f, fits, refl)
      back (Complete height None) fits = (inr (inl height), fits, refl)
      back (Complete height (Some digest)) fits = (inr (inr (height, digest)), fits, refl)

    pub state_tags : IsTaggedBy (state_format {S = S} {K = K} certificate) (λ n. (n ≡ 0) ⊎ ((n ≡ 1) ⊎ (n ≡ 2)))
    state_tags = three_tags state_cases

    pub floor_case : Rest (state_format {S = S} {K = K} certificate) (0 ∷ []) (finalization_format certificate) (λ f. InProgress f)
    floor_case = first_of_three state_cases

    pub height_case : Rest (state_format {S = S} {K = K} certificate) (1 ∷ []) height_format (λ height. Complete height None)
    height_case = second_of_three state_cases

    pub recorded_case : Rest (state_format {S = S} {K = K} certificate) (2 ∷ []) recorded_format (λ p. Complete p.0 (Some p.1))
    recorded_case = third_of_three state_cases
