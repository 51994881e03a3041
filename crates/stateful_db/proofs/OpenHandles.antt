-- Barriers of tokens that name places.
use Rattle.std.proofs.Common.{◌≡◌, ℕ, zero, suc, ◌+◌, ◌<◌, List, [], ◌∷◌, map, length, Some, refl, ap, arith}
use Rattle.std.proofs.lemmas.List.{length-map}
use Rattle.stateful_db.specs.Barrier.{unanswered, open_at}
use Rattle.stateful_db.specs.Tokens.{each_below}
use Rattle.stateful_db.specs.declared.barrier.Handle.{Handle}
use Rattle.stateful_db.specs.declared.database.FlushToken.{FlushToken}

-- an open handle for this place
abbrev pub open_for : ℕ → Handle
open_for place = unanswered (record { place = place })

pub map-unanswered : (tokens : List FlushToken) → map unanswered tokens ≡ map open_for (map (λ t. t.place) tokens)
map-unanswered [] = refl
map-unanswered (t ∷ tokens) = ap (λ hs. unanswered t ∷ hs) (map-unanswered tokens)

pub length-open_for : (f : ℕ → ℕ) (n : ℕ) → length (map open_for (each_below f n)) ≡ n
length-open_for f zero = refl
length-open_for f (suc n) = ap suc (length-open_for (λ i. f (suc i)) n)

pub open_at-each_below : (f : ℕ → ℕ) (n i : ℕ) → i < n → open_at (map open_for (each_below f n)) i ≡ Some (record { place = f i })
open_at-each_below f zero i h = absurd (omega arith)
open_at-each_below f (suc n) zero h = refl
open_at-each_below f (suc n) (suc i) h = open_at-each_below (λ j. f (suc j)) n i (omega arith)
