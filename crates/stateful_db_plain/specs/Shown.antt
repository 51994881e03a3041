-- The chains on which batches stand: points of a batch id and the state behind it, the newest
-- first.
use Rattle.std.specs.Prelude.{◌≡◌, ℕ, ◌<◌, List, [], ◌∷◌}
use Rattle.stateful_db_overlay.specs.Chains.{Stands}
use Rattle.stateful_db_plain.specs.declared.batch.PlainUnmerkleized.{PlainUnmerkleized}
use Rattle.stateful_db_plain.specs.declared.batch.PlainMerkleized.{PlainMerkleized}
use Rattle.stateful_db_plain.specs.Whole.{Whole, target_of}
use Rattle.stateful_db_plain.specs.Writes.{Change, Gives}

-- what a sealed batch changes leads from its parent's state to its own
abbrev pub After : Change → Whole → Whole → Type 0
After change s t = Gives change.writes s t × (change.target ≡ target_of t)

-- the state of the last point, on which the layers of a chain stand
abbrev pub EndsAt : List (ℕ × Whole) → Whole → Type 0
EndsAt [] w = ⊥
EndsAt (p ∷ []) w = p.1 ≡ w
EndsAt (p ∷ q ∷ c) w = EndsAt (q ∷ c) w

-- a batch that may still change shows this point, over its parent's and those below it
pub record IsDraft (u : PlainUnmerkleized) (p q : ℕ × Whole) (c : List (ℕ × Whole)) : Type 0 where
  pub id : p.0 ≡ u.id
  pub later : q.0 < p.0
  pub layers : Stands After u.below.base u.below.layers (q ∷ c)
  pub base : EndsAt (q ∷ c) u.base
  pub size : u.size ≡ q.1.size
  pub gives : Gives u.writes.entries q.1 p.1

-- a chain has the batch's point and its parent's
abbrev pub IsDraftOn : PlainUnmerkleized → List (ℕ × Whole) → Type 0
IsDraftOn u [] = ⊥
IsDraftOn u (p ∷ []) = ⊥
IsDraftOn u (p ∷ q ∷ c) = IsDraft u p q c

-- It stands on this chain, whose second point is its parent. A seal gives the state of the first.
pub record DraftShows (u : PlainUnmerkleized) (c : List (ℕ × Whole)) : Type 0 where
  pub stands : IsDraftOn u c

-- the sealed batch stands on this chain, and has the state of its first point
pub record SealShows (m : PlainMerkleized) (c : List (ℕ × Whole)) : Type 0 where
  pub layers : Stands After m.below.base (m.layer ∷ m.below.layers) c
  pub base : EndsAt c m.base
