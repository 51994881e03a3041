-- A batch stands on a chain of points, the newest first: the id of a batch and the state after it.
-- The last point is the database as it was when the chain began.
use Rattle.std.specs.Prelude.{◌≡◌, ℕ, Bool, ◌==◌, List, [], ◌∷◌, ◌⊎◌, ◌<◌, map}
use Rattle.std.specs.List.{list_any}

abbrev pub ids : {S : Type 0} → List (ℕ × S) → List ℕ
ids c = map (λ p. p.0) c

-- some point of the chain has this id
abbrev pub has_id : {S : Type 0} → List (ℕ × S) → ℕ → Bool
has_id c n = list_any (λ i. i == n) (ids c)

-- a point of the chain
abbrev pub IsPoint : {P : Type 0} → P → List P → Type 0
IsPoint p [] = ⊥
IsPoint p (q ∷ c) = (p ≡ q) ⊎ IsPoint p c

-- every id is below n
abbrev pub AllBelow : ℕ → List ℕ → Type 0
AllBelow n [] = Unit {0}
AllBelow n (i ∷ is) = (i < n) × AllBelow n is
