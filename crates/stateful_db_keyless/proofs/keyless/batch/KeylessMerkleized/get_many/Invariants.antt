use Rattle.std.proofs.Common.{◌≡◌, ◌∷◌, ℕ, List, None, take, map}
use Rattle.stateful_db.specs.Chain.{IsPoint}
use Rattle.stateful_db.specs.Disk.{point}
use Rattle.stateful_db_keyless.specs.Keyless.{State}
use Rattle.stateful_db_keyless.specs.KeylessShown.{SealShows}
use Rattle.stateful_db_keyless.specs.KeylessStored.{standing_of}
use Rattle.stateful_db_keyless.specs.Reads.{log_of, unread, value_at}
use Rattle.stateful_db_keyless.proofs.keyless.batch.KeylessMerkleized.get_many.Given as goal

-- the values at the locations so far
abbrev pub invariant-loop-location : goal.invariant-loop-location
invariant-loop-location g l =
    let V = g.row.V.Denot in
    (p : ℕ × State V) (c : List (ℕ × State V))
    → SealShows l.self (p ∷ c)
    → IsPoint (point (standing_of l.db)) (p ∷ c)
    → unread (log_of p.1) l.locations ≡ None
    → l.values.items ≡ map (λ at. value_at (log_of p.1) at) (take l.location-index l.locations)
