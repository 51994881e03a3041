use Rattle.std.proofs.Common.{◌≡◌, ◌∷◌, ℕ, List, take, map}
use Rattle.stateful_db.specs.Chain.{IsPoint}
use Rattle.stateful_db.specs.Disk.{point}
use Rattle.stateful_db_any.specs.Any.{State, value_at}
use Rattle.stateful_db_any.specs.Shown.{DraftShows}
use Rattle.stateful_db_any.specs.Stored.{standing_of}
use Rattle.stateful_db_any.proofs.batch.AnyUnmerkleized.get_many.Given as goal

-- the values at the keys so far
abbrev pub invariant-loop-key : goal.invariant-loop-key
invariant-loop-key g l =
    let S = State g.row.K.Denot g.row.V.Denot in
    (p : ℕ × S) (c : List (ℕ × S))
    → DraftShows g.K.Ord.cmp g.K.Field.fields.spelling g.V.Field.fields.spelling l.self (p ∷ c)
    → IsPoint (point (standing_of l.db)) (p ∷ c)
    → l.values.items ≡ map (λ key. value_at g.K.Ord.cmp p.1 key) (take l.key-index l.keys)
