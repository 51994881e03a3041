-- Ids along chains of points.
use Rattle.std.proofs.Common.{◌≡◌, ℕ, ◌+◌, ◌≤◌, List, [], ◌∷◌, inl, inr, ap, sym, true, false, arith, Some, subst}
use Rattle.std.proofs.lemmas.Bool.Decides.{nat_tests}
use Rattle.stateful_db.specs.Chain.{has_id, IsPoint, AllBelow}
use Rattle.stateful_db.specs.MemberLaws.{AllBelow-cut, AllBelow-le}

pub AllBelow-drawn : (m n : ℕ) (is : List ℕ) → n ≡ m + 1 → AllBelow m is → AllBelow n (m ∷ is)
AllBelow-drawn m n is e h = (omega arith, AllBelow-le m n is (omega arith) h)

module _ {S : Type 0} where
  -- a point's id stands in the chain
  pub has_id-point : (p : ℕ × S) (c : List (ℕ × S)) → IsPoint p c → has_id c p.0 ≡ true
  has_id-point p [] h = absurd h
  has_id-point p (q ∷ c) (inl e) = let same : q.0 ≡ p.0 = ap (λ (r : ℕ × S). r.0) (sym e) in grind (arith, nat_tests)
  has_id-point p (q ∷ c) (inr h) = let behind = has_id-point p c h in grind (arith, nat_tests)

-- ids below the next one, after a draw
pub ruleset below = (AllBelow-le, AllBelow-drawn, AllBelow-cut)

-- the database's point isn't missing in a chain
pub not_missing : {S : Type 0} (at p : ℕ × S) (c : List (ℕ × S)) → Some at ≡ Some p → IsPoint p c → has_id c at.0 ≡ false → ⊥
not_missing {S} at p c here among missing =
    let same : at ≡ p = cc in
    let found = has_id-point p c among in
    let lost = subst (λ (r : ℕ × S). has_id c r.0 ≡ false) same missing in
    cc
