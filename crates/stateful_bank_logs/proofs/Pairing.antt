-- Points of the pair, by its databases.
use Rattle.std.proofs.Common.{◌≡◌, List, [], ◌∷◌, map, Option, None, Some, inl, inr, refl, ap, subst}
use Rattle.stateful_db.specs.Chain.{IsPoint}
use Rattle.stateful_db.specs.Pair.{left, right, both}
use Rattle.stateful_bank_app.specs.Draft.{IsAmong}

-- a point that is known
pub among_here : {P : Type 0} (here : P) (place : Option P) (c : List P) → place ≡ Some here → IsAmong place c → IsPoint here c
among_here here place c is at =
    let found = at.is in
    let same : at.point ≡ here = cc in subst (λ z. IsPoint z c) same at.among

module _ {I J S T : Type 0} where
  left_point : (p : (I × J) × (S × T)) (c : List ((I × J) × (S × T))) → IsPoint p c → IsPoint (left p) (map left c)
  left_point p [] at = absurd at
  left_point p (q ∷ c) (inl e) = inl (ap left e)
  left_point p (q ∷ c) (inr at) = inr (left_point p c at)

  right_point : (p : (I × J) × (S × T)) (c : List ((I × J) × (S × T))) → IsPoint p c → IsPoint (right p) (map right c)
  right_point p [] at = absurd at
  right_point p (q ∷ c) (inl e) = inl (ap right e)
  right_point p (q ∷ c) (inr at) = inr (right_point p c at)

  -- the first database is at its part of the point
  pub left_among : (a : Option (I × S)) (b : Option (J × T)) (c : List ((I × J) × (S × T))) → IsAmong (both a b) c → IsAmong a (map left c)
  left_among None b c at = let is = at.is in absurd cc
  left_among (Some x) None c at = let is = at.is in absurd cc
  left_among (Some x) (Some y) c at =
      let is = at.is in
      let same : at.point ≡ ((x.0, y.0), (x.1, y.1)) = cc in
      record { point = x; is = refl; among = subst (λ z. IsPoint z (map left c)) (ap left same) (left_point at.point c at.among) }

  -- so are the others
  pub right_among : (a : Option (I × S)) (b : Option (J × T)) (c : List ((I × J) × (S × T))) → IsAmong (both a b) c → IsAmong b (map right c)
  right_among None b c at = let is = at.is in absurd cc
  right_among (Some x) None c at = let is = at.is in absurd cc
  right_among (Some x) (Some y) c at =
      let is = at.is in
      let same : at.point ≡ ((x.0, y.0), (x.1, y.1)) = cc in
      record { point = y; is = refl; among = subst (λ z. IsPoint z (map right c)) (ap right same) (right_point at.point c at.among) }
