-- How often a number stands in a list.
use Rattle.std.specs.Prelude.{ℕ, ◌+◌, ◌==◌, cond, List, [], ◌∷◌}

abbrev pub times : ℕ → List ℕ → ℕ
times t [] = 0
times t (u ∷ us) = cond (u == t) 1 0 + times t us
