-- Messages that wait.
use Rattle.std.proofs.Common.{◌≡◌, Bool, true, false, cond, Option, Some, None, List, [], ◌∷◌, map, filter, refl, sym, ap}
use Rattle.std.proofs.lemmas.List.Elements.{filter-append}
use Rattle.stateful_p2p.specs.Messages.{is_request, attached, asked, pending}
use Rattle.stateful_p2p.specs.declared.message.Message.{Message}
use Rattle.stateful_p2p.specs.declared.message.Ask.{Ask}

module _ {D : Type 0} where
  all_requests : (requests : List Ask) → filter (is_request {D = D}) (map asked requests) ≡ map asked requests
  all_requests [] = refl
  all_requests (ask ∷ requests) = ap (λ w. asked ask ∷ w) (all_requests requests)

  -- without the database that waits
  pub only_requests : (database : Option D) (requests : List Ask) → filter is_request (pending database requests) ≡ map asked requests
  only_requests None requests = all_requests requests
  only_requests (Some db) requests = all_requests requests

  kept_requests : (holds : Message D → Bool) (requests : List Ask) → map asked (filter (λ ask. holds (asked ask)) requests) ≡ filter holds (map asked requests)
  kept_requests holds [] = refl
  kept_requests holds (ask ∷ requests) = go (holds (asked ask)) (kept_requests holds requests)
    where
      go : (b : Bool) → map asked (filter (λ ask. holds (asked ask)) requests) ≡ filter holds (map asked requests)
          → map asked (cond b (ask ∷ filter (λ ask. holds (asked ask)) requests) (filter (λ ask. holds (asked ask)) requests)) ≡ cond b (asked ask ∷ filter holds (map asked requests)) (filter holds (map asked requests))
      go true rest = ap (λ w. asked ask ∷ w) rest
      go false rest = rest

  -- those of which a test holds
  pub retained : (holds : Message D → Bool) (before after : Option D) (xs ys : List Ask) → attached after ≡ filter holds (attached before) → ys ≡ filter (λ ask. holds (asked ask)) xs
      → pending after ys ≡ filter holds (pending before xs)
  retained holds before after xs ys db rest = rw (rest, db, kept_requests holds xs) (sym (filter-append holds (attached before) (map asked xs)))
