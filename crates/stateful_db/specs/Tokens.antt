-- The tokens of a database that are out, as the places that they name, the oldest first.
use Rattle.std.specs.Prelude.{ℕ, ◌==◌, if◌then◌else◌, List, [], ◌∷◌, zero, suc}

-- the first token of this place is in
abbrev pub without : ℕ → List ℕ → List ℕ
without at [] = []
without at (place ∷ places) = if place == at then places else place ∷ without at places

-- of the databases of the numbers below this one, a number each
abbrev pub each_below : (ℕ → ℕ) → ℕ → List ℕ
each_below f zero = []
each_below f (suc n) = f 0 ∷ each_below (λ i. f (suc i)) n
