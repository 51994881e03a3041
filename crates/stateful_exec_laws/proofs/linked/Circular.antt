-- A block that is asked for a second time is an ancestor of itself.
use Rattle.std.proofs.Common.{◌≡◌, ◌++◌, ◌⊎◌, inl, inr, zero, suc, List, [], ◌∷◌, All, Any, Some, refl, sym, ap, ◌∙◌, subst, arith}
use Rattle.std.proofs.lemmas.List.Elements.{All-head, All-tail}
use Rattle.stateful_base.specs.Names.{Named}
use Rattle.stateful_base.specs.declared.digest.Digest.{Digest}
use Rattle.stateful_history.specs.Ancestors.{Up, itself, above, IsCircular}
use Rattle.stateful_history.specs.Met.{Met}
use Rattle.stateful_history.specs.Past.{Past}
use Rattle.stateful_history.specs.Setting.{Setting, parent_of}
use Rattle.stateful_exec_laws.specs.Gathering.{but_last, last_of}
use Rattle.stateful_exec_laws.specs.Requesting.{LeadsDown}
use Rattle.stateful_exec_laws.proofs.requests.Acquired.{leads_down}
use Rattle.stateful_exec_laws.proofs.linked.OnPath.{Up-along}

pub but_last-push : {T : Type 0} (xs : List T) (x : T) → but_last (xs ++ x ∷ []) ≡ xs
but_last-push [] x = refl
but_last-push (y ∷ []) x = refl
but_last-push (y ∷ z ∷ xs) x = ap (λ l. y ∷ l) (but_last-push (z ∷ xs) x)

pub last_of-push : {T : Type 0} (xs : List T) (x : T) → last_of (xs ++ x ∷ []) ≡ Some x
last_of-push [] x = refl
last_of-push (y ∷ []) x = refl
last_of-push (y ∷ z ∷ xs) x = last_of-push (z ∷ xs) x

Any-head_or_tail : {X : Type 0} (P : X → Type 0) (x : X) (xs : List X) → Any P (x ∷ xs) → P x ⊎ Any P xs
Any-head_or_tail P x xs (zero, y, l, at, h) = inl (subst P (sym at) h)
Any-head_or_tail P x xs (suc k, y, l, at, h) = inr (k, y, omega (arith, l), at, h)

module _ {B C I S T : Type 0} (s : Setting B S T) (p : Past B C I) where
  -- the last step up, seen from below
  Up-first : {b x : Named B} → Up s p b x → (b ≡ x) ⊎ ((c : Named B) × Met s p c × (c.digest ≡ parent_of s b) × Up s p c x)
  Up-first itself = inl refl
  Up-first (above {y = y} u met is) = elim (Up-first u) [
    | inl e ↦ inr (y, met, subst (λ (z : Named B). y.digest ≡ parent_of s z) (sym e) is, itself)
    | inr h ↦ inr (h.0, h.1, h.2, above h.3 met is)
  ]

  -- where the parent of an ancestor is the block itself
  IsCircular-up : (d : Digest) (b x : Named B) → Met s p b → b.digest ≡ d → d ≡ parent_of s x → Up s p b x → IsCircular s p d
  IsCircular-up d b x met is parent up = elim (Up-first up) [
    | inl e ↦ record { block = b; met = met; is = is; parent = b; parent_met = met; is_parent = is ∙ parent ∙ ap (λ (z : Named B). parent_of s z) (sym e); back = record { ancestor = b; up = itself; is = is } }
    | inr h ↦ record { block = b; met = met; is = is; parent = h.0; parent_met = h.1; is_parent = h.2; back = record { ancestor = b; up = above h.3 met (is ∙ parent); is = is } }
  ]

  circular_in : (d : Digest) (front : List (Named B)) (last : Named B) → All (Met s p) (front ++ last ∷ []) → LeadsDown s.header (front ++ last ∷ []) → Any (λ b. d ≡ parent_of s b) front → d ≡ parent_of s last → IsCircular s p d
  circular_in d [] last met leads any parent = let l = any.2 in absurd (omega arith)
  circular_in d (y ∷ []) last met leads any parent = elim (Any-head_or_tail (λ b. d ≡ parent_of s b) y [] any) [
    | inl is ↦ IsCircular-up d last last (All-head (Met s p) last [] (All-tail (Met s p) y (last ∷ []) met)) (leads.0 ∙ sym is) parent itself
    | inr none ↦ (let l = none.2 in absurd (omega arith))
  ]
  circular_in d (y ∷ z ∷ zs) last met leads any parent =
      let met_on : All (Met s p) ((z ∷ zs) ++ last ∷ []) = All-tail (Met s p) y (z ∷ zs ++ last ∷ []) met in
      let leads_on : LeadsDown s.header ((z ∷ zs) ++ last ∷ []) = leads_down s.header (z ∷ zs ++ last ∷ []) leads.1 in
      elim (Any-head_or_tail (λ b. d ≡ parent_of s b) y (z ∷ zs) any) [
        | inl is ↦ IsCircular-up d z last (All-head (Met s p) z (zs ++ last ∷ []) met_on) (leads.0 ∙ sym is) parent (Up-along s p (z ∷ zs) last met_on leads_on)
        | inr rest ↦ circular_in d (z ∷ zs) last met_on leads_on rest parent
      ]

  -- The blocks lead down to the last one, whose parent is the parent of another one too: it is an ancestor of itself.
  pub IsCircular-again : (d : Digest) (blocks front : List (Named B)) (last : Named B) → blocks ≡ front ++ last ∷ [] → All (Met s p) blocks → LeadsDown s.header blocks → Any (λ b. d ≡ parent_of s b) (but_last blocks) → d ≡ parent_of s last → IsCircular s p d
  IsCircular-again d blocks front last is met leads any parent =
      circular_in d front last (subst (λ (l : List (Named B)). All (Met s p) l) is met) (subst (λ (l : List (Named B)). LeadsDown s.header l) is leads)
      (subst (λ (l : List (Named B)). Any (λ b. d ≡ parent_of s b) l) (ap but_last is ∙ but_last-push front last) any) parent
