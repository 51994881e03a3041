-- False verdicts for what the ancestors of a block are, and one that has no reason.
use Rattle.std.proofs.Common.{◌≡◌, ◌≢◌, ◌+◌, ◌⊎◌, ℕ, Some, false, MatchOption, refl, sym, subst, inl, inr, ◌∙◌}
use Rattle.stateful_base.specs.Names.{Named}
use Rattle.stateful_base.specs.declared.anchor.Anchor.{Anchor}
use Rattle.stateful_history.specs.Setting.{Setting, parent_of, height_of}
use Rattle.stateful_history.specs.Past.{Past}
use Rattle.stateful_history.specs.Anchors.{tip_of}
use Rattle.stateful_history.specs.Asked.{verified}
use Rattle.stateful_history.specs.Met.{Met}
use Rattle.stateful_history.specs.Known.{Known, IsUnknown, is_tip}
use Rattle.stateful_history.specs.States.{HasState}
use Rattle.stateful_history.specs.Canonical.{IsCanonical}
use Rattle.stateful_history.specs.Reasons.{Missing, itself, above, IsMissingAbove, IsCovered, IsReplaced, IsBad, FailsOnKnown, SkipsHeight, LeavesTip, HasReason, FalseHasReason}
use Rattle.stateful_history.specs.declared.mark.Mark.TheVariants.{Verdict}

-- a request asks to judge b, which isn't known and isn't the finalized block of its height
module _ {B C I S T : Type 0} (s : Setting B S T) (base : S) (p : Past B C I) (t : ℕ) (b : Named B)
    (asks : verified t p ≡ Some b) (unknown : IsUnknown s p b.digest) (not_final : IsCanonical s p b → ⊥) where
  judged : HasReason s base p b → FalseHasReason s base p (Verdict t false)
  judged reason = rw asks reason

  -- its parent x isn't known; that may be b itself, where b's names make it its own parent
  module _ (x : Named B) (met : Met s p x) (is_parent : x.digest ≡ parent_of s b) (missing : IsUnknown s p x.digest) where
    its_parent : IsMissingAbove s base p b x
    its_parent = record { parent = x; met = met; is_parent = is_parent; missing = itself missing }

    -- x is two above its own parent y, so b may be judged false
    skips : (y : Named B) → Met s p y → y.digest ≡ parent_of s x → height_of s x ≢ height_of s y + 1 → FalseHasReason s base p (Verdict t false)
    skips y there is two = judged record {
      unknown = unknown;
      not_final = not_final;
      because = inr (inr (inl record { ancestor = x; missing = its_parent; parent = y; met = there; is_parent = is; skips = two }));
    }

    -- x is no higher than the tip, so b may be judged false
    leaves : IsCovered s base p x → FalseHasReason s base p (Verdict t false)
    leaves covered = judged record {
      unknown = unknown;
      not_final = not_final;
      because = inr (inr (inr record { ancestor = x; missing = its_parent; covered = covered }));
    }

  -- its parent is the tip, b is higher, and good on each state of the tip
  module _ (tip : Anchor) (tipped : tip_of s.header p ≡ Some tip) (on_tip : parent_of s b ≡ tip.digest) (higher : IsCovered s base p b → ⊥)
      (good : (u : S) → HasState s base p (parent_of s b) u → IsBad s base p u b → ⊥) where
    -- then nothing but b is missing
    only : (x : Named B) → Missing s base p b x → x ≡ b
    only x (itself none) = refl
    only x (above {x = below} m there is none) =
        let on : parent_of s below ≡ tip.digest = subst (λ c. parent_of s c ≡ tip.digest) (sym (only below m)) on_tip in
        absurd (none (subst (Known s p) (sym (is ∙ on)) (is_tip tipped)))

    -- and nothing above it
    none_above : (x : Named B) → IsMissingAbove s base p b x → ⊥
    none_above x h = first h.missing (subst (Known s p) (sym (h.is_parent ∙ on_tip)) (is_tip tipped))
      where
        first : {x y : Named B} → Missing s base p x y → IsUnknown s p x.digest
        first (itself none) = none
        first (above m there is none) = first m

    is_good : (x : Named B) (u : S) → x ≡ b → HasState s base p (parent_of s x) u → IsBad s base p u x → ⊥
    is_good x u is = subst (λ c. HasState s base p (parent_of s c) u → IsBad s base p u c → ⊥) (sym is) (good u)

    -- and b isn't judged false: neither for a height of its own that isn't one above the tip's, nor else
    not_false : FalseHasReason s base p (Verdict t false) → ⊥
    not_false verdict = refused reason.because
      where
        reason : HasReason s base p b
        reason = subst (λ o. MatchOption o ⊥ (λ c. HasReason s base p c)) asks verdict

        refused : IsReplaced s base p b ⊎ (FailsOnKnown s base p b ⊎ (SkipsHeight s base p b ⊎ LeavesTip s base p b)) → ⊥
        refused (inl replaced) = higher replaced.covered
        refused (inr (inl fails)) = is_good fails.first fails.state (only fails.first fails.missing) fails.has_state fails.bad
        refused (inr (inr (inl other))) = none_above other.ancestor other.missing
        refused (inr (inr (inr other))) = none_above other.ancestor other.missing
