use Rattle.std.proofs.Common.{◌≡◌, ◌∷◌, ℕ, List, None, take, map}
use Rattle.stateful_db.specs.Chain.{IsPoint}
use Rattle.stateful_db.specs.Disk.{point}
use Rattle.stateful_db_compact.specs.Ops.{Changes}
use Rattle.stateful_db_keyless.specs.Keyless.{State}
use Rattle.stateful_db_keyless.specs.KeylessShown.{Holds, DraftShows}
use Rattle.stateful_db_keyless.specs.KeylessStored.{standing_of}
use Rattle.stateful_db_keyless.specs.Reads.{log_over, unread, value_at}
use Rattle.stateful_db_keyless.proofs.keyless.batch.KeylessUnmerkleized.get_many.Given as goal

-- the values at the locations so far
abbrev pub invariant-loop-location : goal.invariant-loop-location
invariant-loop-location g l =
    let V = g.row.V.Denot in
    let spell = g.V.Field.fields.spelling in
    (p q : ℕ × State V) (c : List (ℕ × State V)) (ch : Changes V)
    → DraftShows spell l.self (p ∷ q ∷ c)
    → Holds spell l.self ch q.1
    → IsPoint (point (standing_of l.db)) (p ∷ q ∷ c)
    → unread (log_over ch q.1) l.locations ≡ None
    → l.values.items ≡ map (λ at. value_at (log_over ch q.1) at) (take l.location-index l.locations)
