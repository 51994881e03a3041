-- The layers of a chain, the newest first: the id of a sealed batch, and its changes.
use Rattle.std.specs.Prelude.{ℕ, Bool, ◌==◌, ◌||◌, List, [], ◌∷◌, if◌then◌else◌}
use Rattle.std.specs.List.{list_any}

-- layers over the point of a database, where the batch of the base was applied last
pub record Stack (C : Type 0) : Type 0 where
  pub base : ℕ
  pub layers : List (ℕ × C)

module _ {C : Type 0} where
  -- the base or a layer has this id
  abbrev pub has_layer : Stack C → ℕ → Bool
  has_layer s n = (s.base == n) || list_any (λ l. l.0 == n) s.layers

  -- the layers above the first of this id, or all
  abbrev pub above : ℕ → List (ℕ × C) → List (ℕ × C)
  above n [] = []
  above n (l ∷ ls) = if l.0 == n then [] else l ∷ above n ls

  -- the layers above the base or a layer of this id; the base is tested first
  abbrev pub above_in : ℕ → Stack C → List (ℕ × C)
  above_in n s = if s.base == n then s.layers else above n s.layers

  -- without the layers from this id down, which is then the base
  abbrev pub cut_at : ℕ → Stack C → Stack C
  cut_at n s = if has_layer s n then record { base = n; layers = above_in n s } else s
