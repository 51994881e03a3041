-- Checkpoints in order, by their ranges.
use Rattle.std.specs.Prelude.{◌≡◌, ℕ, zero, suc, ◌+◌, ◌<◌, ◌≤◌, List, [], ◌∷◌, ⊤, slice_get, Some}
use Rattle.std.specs.Coded.{×_prop, Unit-prop, le_prop}
use Rattle.std.proofs.Common.{arith, ap}
use Rattle.stateful_base.specs.declared.target.Target.{Target}

-- The range of each ends behind that of the one before, and doesn't start before it. The first ends
-- behind `end` and doesn't start before `start`.
abbrev pub Ascend : {S : Type 0} → (S → Target) → ℕ → ℕ → List S → Type 0
Ascend range start end [] = ⊤
Ascend range start end (s ∷ ss) =
    (start ≤ (range s).start.0)
    × ((end < (range s).end.0) × Ascend range (range s).start.0 (range s).end.0 ss)

pub Ascend-prop : {S : Type 0} (range : S → Target) (start end : ℕ) (ss : List S)
    → IsProp (Ascend range start end ss)
Ascend-prop range start end [] = Unit-prop
Ascend-prop range start end (s ∷ ss) =
    let starts : IsProp (start ≤ (range s).start.0) = le_prop in
    let ends : IsProp (end < (range s).end.0) = le_prop in
    ×_prop starts (×_prop ends (Ascend-prop range (range s).start.0 (range s).end.0 ss))

module _ {S : Type 0} (range : S → Target) where
  -- each ends behind the bound
  pub Ascend-above : (start end : ℕ) (ss : List S) (i : ℕ) (s : S)
      → Ascend range start end ss
      → slice_get ss i ≡ Some s
      → (start ≤ (range s).start.0) × (end + i < (range s).end.0)
  Ascend-above start end [] i s up is = cc
  Ascend-above start end (t ∷ ss) zero s up is =
      let same : t ≡ s = cc in (
        omega (arith, up.0, ap (λ x. (range x).start.0) same),
        omega (arith, up.1.0, ap (λ x. (range x).end.0) same),
      )
  Ascend-above start end (t ∷ ss) (suc i) s up is =
      let behind = Ascend-above (range t).start.0 (range t).end.0 ss i s up.1.1 is in
      (omega (arith, up.0, behind.0), omega (arith, up.1.0, behind.1))

  -- a later one ends behind an earlier one, and doesn't start before it
  pub Ascend-later : (start end : ℕ) (ss : List S) (i j : ℕ) (s t : S)
      → Ascend range start end ss
      → i < j
      → slice_get ss i ≡ Some s
      → slice_get ss j ≡ Some t
      → ((range s).start.0 ≤ (range t).start.0) × ((range s).end.0 < (range t).end.0)
  Ascend-later start end [] i j s t up less at_i at_j = cc
  Ascend-later start end (u ∷ ss) i zero s t up less at_i at_j = absurd (omega arith)
  Ascend-later start end (u ∷ ss) zero (suc j) s t up less at_i at_j =
      let same : u ≡ s = cc in
      let behind = Ascend-above (range u).start.0 (range u).end.0 ss j t up.1.1 at_j in (
        omega (arith, behind.0, ap (λ x. (range x).start.0) same),
        omega (arith, behind.1, ap (λ x. (range x).end.0) same),
      )
  Ascend-later start end (u ∷ ss) (suc i) (suc j) s t up less at_i at_j =
      Ascend-later (range u).start.0 (range u).end.0 ss i j s t up.1.1 (omega arith) at_i at_j
