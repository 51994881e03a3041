-- What is missing of a block: its ancestors up to one that isn't known, along a list that leads down.
use Rattle.std.proofs.Common.{◌≡◌, ◌⊎◌, ◌++◌, inl, inr, List, [], ◌∷◌, All, Some, refl, sym, subst}
use Rattle.std.proofs.lemmas.List.Elements.{All-head, All-tail}
use Rattle.stateful_base.specs.Names.{Named}
use Rattle.stateful_base.specs.declared.anchor.Anchor.{Anchor}
use Rattle.stateful_base.specs.declared.digest.Digest.{Digest}
use Rattle.stateful_history.specs.Anchors.{tip_of}
use Rattle.stateful_history.specs.Known.{Known, is_tip, kept, stays, IsUnknown, IsPastTip}
use Rattle.stateful_history.specs.Met.{Met, TrueNames}
use Rattle.stateful_history.specs.Past.{Past}
use Rattle.stateful_history.specs.Reasons.{Missing, itself, above, IsMissingAbove}
use Rattle.stateful_history.specs.Setting.{Setting, parent_of}
use Rattle.stateful_exec_tables.specs.Meeting.{first_or}
use Rattle.stateful_exec_laws.specs.Requesting.{LeadsDown}
use Rattle.stateful_exec_laws.proofs.requests.Acquired.{leads_down}

module _ {B C I S T : Type 0} (s : Setting B S T) where
  -- a known block is the tip; or its parent is known too, and it is of a later round than the tip
  pub Known-above : {p : Past B C I} {d : Digest} → Known s p d → TrueNames s p → (x : Named B) → Met s p x → x.digest ≡ d
      → ((tip : Anchor) × (tip_of s.header p ≡ Some tip) × (tip.digest ≡ d)) ⊎ (Known s p (parent_of s x) × IsPastTip s p x)
  Known-above (is_tip {tip = tip} e) names x met is = inl (tip, e, refl)
  Known-above (kept {p = p} {item = item} {b = b} m k l parent) names x met is = inr (subst (λ (y : Named B). Known s (item ∷ p) (parent_of s y) × IsPastTip s (item ∷ p) y) (names b x m met (sym is)) (parent, l))
  Known-above (stays {p = p} {item = item} {b = b} o m k old l parent) names x met is = inr (subst (λ (y : Named B). Known s (item ∷ p) (parent_of s y) × IsPastTip s (item ∷ p) y) (names b x (inr m) met (sym is)) (parent, l))

  module _ (base : S) (p : Past B C I) where
    -- the last of the missing ones isn't known, nor is the first
    pub Missing-last : {b x : Named B} → Missing s base p b x → IsUnknown s p x.digest
    Missing-last (itself u) = u
    Missing-last (above m met is u) = u

    pub Missing-first : {b x : Named B} → Missing s base p b x → IsUnknown s p b.digest
    Missing-first (itself u) = u
    Missing-first (above m met is u) = Missing-first m

    -- what is missing of a block is it, or is missing from its parent on
    pub Missing-split : {b x : Named B} → Missing s base p b x → (b ≡ x) ⊎ IsMissingAbove s base p b x
    Missing-split (itself u) = inl refl
    Missing-split (above {y = y} m met is u) = elim (Missing-split m) [
      | inl own ↦ inr (record { parent = y; met = met; is_parent = subst (λ (z : Named B). y.digest ≡ parent_of s z) (sym own) is; missing = itself u })
      | inr on ↦ inr (record { parent = on.parent; met = on.met; is_parent = on.is_parent; missing = above on.missing met is u })
    ]

    -- what is missing of a block's parent is missing of the block
    pub Missing-child : {b x : Named B} → Missing s base p b x → (z : Named B) → IsUnknown s p z.digest → Met s p b → b.digest ≡ parent_of s z → Missing s base p z x
    Missing-child (itself u) z none met is = above (itself none) met is u
    Missing-child (above m there at u) z none met is = above (Missing-child m z none met is) there at u

    module _ (KeepsUp : Named B → Type 0) (up : (z c : Named B) → KeepsUp z → KeepsUp c → Met s p z → c.digest ≡ parent_of s z → IsUnknown s p c.digest → IsUnknown s p z.digest) where
      joined : (z c x : Named B) → KeepsUp z → KeepsUp c → Met s p z → Met s p c → c.digest ≡ parent_of s z → Missing s base p c x → Missing s base p z x
      joined z c x keeps_z keeps_c met_z met_c is m = Missing-child m z (up z c keeps_z keeps_c met_z is (Missing-first m)) met_c is

      -- Down a list whose blocks lead to each other, all are missing of the first, where the last isn't known and none is known
      -- whose parent isn't.
      pub Missing-along : (bs : List (Named B)) (x : Named B) → All KeepsUp (bs ++ x ∷ []) → All (Met s p) (bs ++ x ∷ []) → LeadsDown s.header (bs ++ x ∷ []) → IsUnknown s p x.digest → Missing s base p (first_or x bs) x
      Missing-along [] x keeps met leads none = itself none
      Missing-along (z ∷ []) x keeps met leads none =
          joined z x x (All-head KeepsUp z (x ∷ []) keeps) (All-head KeepsUp x [] (All-tail KeepsUp z (x ∷ []) keeps)) (All-head (Met s p) z (x ∷ []) met) (All-head (Met s p) x [] (All-tail (Met s p) z (x ∷ []) met)) leads.0 (itself none)
      Missing-along (z ∷ c ∷ bs) x keeps met leads none =
          let keeps_on : All KeepsUp ((c ∷ bs) ++ x ∷ []) = All-tail KeepsUp z (c ∷ bs ++ x ∷ []) keeps in
          let met_on : All (Met s p) ((c ∷ bs) ++ x ∷ []) = All-tail (Met s p) z (c ∷ bs ++ x ∷ []) met in
          joined z c x (All-head KeepsUp z (c ∷ bs ++ x ∷ []) keeps) (All-head KeepsUp c (bs ++ x ∷ []) keeps_on) (All-head (Met s p) z (c ∷ bs ++ x ∷ []) met) (All-head (Met s p) c (bs ++ x ∷ []) met_on) leads.0
          (Missing-along (c ∷ bs) x keeps_on met_on (leads_down s.header (c ∷ bs ++ x ∷ []) leads.1) none)
