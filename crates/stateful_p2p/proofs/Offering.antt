-- Tickets that a candidate is offered to.
use Rattle.std.proofs.Common.{◌≡◌, ◌≢◌, ℕ, ◌+◌, ◌<◌, List, [], ◌∷◌, ◌++◌, length, take, get_or, map, refl, ap, arith}
use Rattle.std.proofs.lemmas.List.{map-append, take_more}
use Rattle.stateful_types.specs.declared.response.Response.{Response}
use Rattle.stateful_p2p.specs.Inbox.{Inbox, offered, offered_each}

offered_append : {D Op : Type 0} (m : Inbox D Op) (ts : List ℕ) (t : ℕ) (r : Response Op) → offered_each m (ts ++ t ∷ []) r ≡ offered (offered_each m ts r) t r
offered_append m [] t r = refl
offered_append m (x ∷ ts) t r = offered_append (offered m x r) ts t r

pub offered_more : {D Op : Type 0} (m : Inbox D Op) (ts : List ℕ) (i : ℕ) (r : Response Op) → i < length ts → offered_each m (take (i + 1) ts) r ≡ offered (offered_each m (take i ts) r) (get_or ts i 0) r
offered_more m ts i r lt = rw (take_more ts i 0 lt) (offered_append m (take i ts) (get_or ts i 0) r)

pub map_more : {A : Type 0} (f : ℕ → A) (ts : List ℕ) (i : ℕ) → i < length ts → map f (take (i + 1) ts) ≡ map f (take i ts) ++ f (get_or ts i 0) ∷ []
map_more f ts i lt = rw (take_more ts i 0 lt) (map-append f (take i ts) (get_or ts i 0 ∷ []))

pub none_left : (keys : List ℕ) → length keys ≡ 0 → keys ≡ []
none_left [] e = refl
none_left (x ∷ keys) e = absurd (omega (arith, e))

pub some_left : (keys : List ℕ) → (length keys ≡ 0 → ⊥) → keys ≢ []
some_left keys some none = some (ap length none)
