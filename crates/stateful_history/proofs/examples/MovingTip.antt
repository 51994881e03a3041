-- What is known while the tip moves: between the mark that a finalization began and that its block was applied.
use Rattle.std.proofs.Common.{◌≡◌, ◌≢◌, ◌⊎◌, ℕ, Some, true, false, ◌∷◌, MatchOption, refl, sym, subst, inl, inr, ap, ◌∙◌}
use Rattle.stateful_base.specs.Names.{Named}
use Rattle.stateful_base.specs.Round.{IsLater}
use Rattle.stateful_base.specs.Anchor.{anchor_by}
use Rattle.stateful_base.specs.declared.anchor.Anchor.{Anchor}
use Rattle.stateful_base.specs.declared.digest.Digest.{Digest}
use Rattle.stateful_history.specs.Setting.{Setting, parent_of, round_of}
use Rattle.stateful_history.specs.Past.{Past, Made}
use Rattle.stateful_history.specs.Met.{Met, TrueNames}
use Rattle.stateful_history.specs.Known.{Known, IsUnknown, is_tip, kept, stays, IsPastTip}
use Rattle.stateful_history.specs.Joined.{Joined, TrueIsEarned}
use Rattle.stateful_history.specs.States.{HasState}
use Rattle.stateful_history.specs.Reasons.{itself, HasReason, FalseHasReason}
use Rattle.stateful_history.specs.Canonical.{IsCanonical}
use Rattle.stateful_history.specs.Asked.{verified}
use Rattle.stateful_history.specs.Runs.{StartsWell}
use Rattle.stateful_history.specs.declared.mark.JobKind.TheVariants.{Candidate}
use Rattle.stateful_history.specs.declared.mark.Mark.TheVariants.{Began, Started, Verdict}

-- the finalization of the block f begins where its child x is known
module _ {B C I S T : Type 0} (s : Setting B S T) (q : Past B C I) (t : ℕ) (f x : Named B)
    (known : Known s q x.digest) (met : Met s q x) (before : IsPastTip s q x) (child : parent_of s x ≡ f.digest) where
  abbrev began : Past B C I
  began = Made (Began t f) ∷ q

  -- x stays known where its round is later than that of f
  stays_known : IsLater (round_of s f) (round_of s x) → Known s began x.digest
  stays_known later = stays tt met known before later (rw child (is_tip refl))

  -- so no run of it may be started again
  not_run_again : IsLater (round_of s f) (round_of s x) → (j : ℕ) → StartsWell s began (Started j Candidate x.digest) → ⊥
  not_run_again later j starts = starts.unknown (stays_known later)

  -- where its round isn't later, x is known no more
  module _ (names : TrueNames s began) (other : x.digest ≢ f.digest) (late : IsLater (round_of s f) (round_of s x) → ⊥) where
    dropped : (d : Digest) → Known s began d → d ≡ x.digest → ⊥
    dropped d (is_tip {tip = tip} e) is =
        let same : anchor_by s.header f ≡ tip = cc in
        other (sym (ap (λ (a : Anchor). a.digest) same ∙ is))
    dropped d (kept m k l parent) is = cc
    dropped d (stays {b = b} none m k old l parent) is = late (rw (sym (names b x (inr m) (inr met) is)) l)

    unknown : IsUnknown s began x.digest
    unknown is_known = dropped x.digest is_known refl

    -- so it may be judged false, since it comes too late
    judged_false : (u : ℕ) (base state : S) → verified u q ≡ Some x → (IsCanonical s began x → ⊥) → HasState s base began (parent_of s x) state → FalseHasReason s base began (Verdict u false)
    judged_false u base state asks replaced has =
        let reason : HasReason s base began x = record {
          unknown = unknown;
          not_final = replaced;
          because = inr (inl record { first = x; missing = itself unknown; known = rw child (is_tip refl); state = state; has_state = has; bad = inr (inr (inr late)) });
        } in
        rw asks reason

    -- and it isn't judged true, unless it is the finalized block of its height
    not_true : (u : ℕ) (base : S) → verified u q ≡ Some x → (IsCanonical s began x → ⊥) → TrueIsEarned s base began (Verdict u true) → ⊥
    not_true u base asks replaced earned =
        let judged : Joined s base began x.digest ⊎ IsCanonical s began x = subst (λ o. MatchOption o ⊥ (λ b. Joined s base began b.digest ⊎ IsCanonical s began b)) asks earned in
        elim judged [ inl joined ↦ unknown joined.known | inr final ↦ replaced final ]
