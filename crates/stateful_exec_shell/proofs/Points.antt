-- Points of a chain, by their ids.
use Rattle.std.proofs.Common.{◌≡◌, ℕ, Bool, true, false, ◌==◌, ◌||◌, List, [], ◌∷◌, inl, inr, ap, sym, ◌∙◌, refl, arith}
use Rattle.std.proofs.lemmas.Bool.Decides.{nat_tests}
use Rattle.stateful_db.specs.Chain.{IsPoint, has_id}

same : (a b : ℕ) → a ≡ b → (a == b) ≡ true
same a b h = grind (arith, nat_tests)

or_true : (b : Bool) → (b || true) ≡ true
or_true true = refl
or_true false = refl

-- the id of a point is one of the chain's
pub has_point : {S : Type 0} (q : ℕ × S) (c : List (ℕ × S)) → IsPoint q c → has_id c q.0 ≡ true
has_point q [] at = absurd at
has_point q (p ∷ c) (inl e) = ap (λ b. b || has_id c q.0) (same p.0 q.0 (ap (λ z. z.0) (sym e)))
has_point q (p ∷ c) (inr at) = ap (λ b. (p.0 == q.0) || b) (has_point q c at) ∙ or_true (p.0 == q.0)
