-- The live requests to build, as the register knows them and as requests say it.
use Rattle.std.proofs.Common.{◌≡◌, ℕ, ◌+◌, ◌<◌, max, ◌==◌, ltb, Bool, true, false, not, cond, ◌&&◌, Option, Some, None, [], ◌∷◌, refl, arith}
use Rattle.std.proofs.lemmas.Bool.Decides.{nat_tests}
use Rattle.stateful_history.specs.Past.{Past, Came}
use Rattle.stateful_history.specs.Live.{live_ticket, is_request, bound_of}
use Rattle.stateful_history.specs.Requests.{Proposal, proposed, IsLiveProposal}
use Rattle.stateful_history.specs.declared.ticket.Ticket.{Ticket}
use Rattle.stateful_history.specs.declared.ticket.Ticket.TheVariants.{Request, Receipt}
use Rattle.stateful_history.specs.declared.event.Event.TheVariants.{Verify, Prepare, Propose, Finalized, Subscribe}
use Rattle.stateful_actor_register.specs.Proposals.{asks_to_build, live_proposal, TicketsCameNew}

request_is : (live : Option Ticket) → is_request live ≡ true → live ≡ Some Request
request_is None is = cc
request_is (Some Request) is = refl
request_is (Some Receipt) is = cc

both : (a b : Bool) → a && b ≡ true → (a ≡ true) × (b ≡ true)
both true b is = (refl, is)
both false b is = cc

-- a request for something else doesn't ask to build
not_this : (same asks : Bool) → cond same false asks ≡ true → asks ≡ true
not_this true asks is = cc
not_this false asks is = is

-- a ticket above every earlier one is none of those
above_all : (t u bound : ℕ) (asks : Bool) → not (ltb u bound) ≡ true → (t < bound) × (asks ≡ true) → (t < max (u + 1) bound) × (cond (t == u) false asks ≡ true)
above_all t u bound asks new rest = (grind arith, go (t == u) refl)
  where
    go : (same : Bool) → (t == u) ≡ same → cond same false asks ≡ true
    go true is = let no : ⊥ = grind (arith, nat_tests) in absurd no
    go false is = rest.1

module _ {B C I : Type 0} where
  this : (same asks : Bool) (r : Proposal B C I) (older : Option (Proposal B C I)) → cond same true asks ≡ true → (asks ≡ true → (r : Proposal B C I) × (older ≡ Some r)) → (found : Proposal B C I) × (cond same (Some r) older ≡ Some found)
  this true asks r older is rest = (r, refl)
  this false asks r older is rest = rest is

  -- what asks to build asks for something
  proposed-found : (t : ℕ) (p : Past B C I) → asks_to_build t p ≡ true → (r : Proposal B C I) × (proposed t p ≡ Some r)
  proposed-found t [] asks = cc
  proposed-found t (Came (Prepare u context ancestry input) ∷ p) asks = this (t == u) (asks_to_build t p) _ (proposed t p) asks (proposed-found t p)
  proposed-found t (Came (Propose u context ancestry input) ∷ p) asks = this (t == u) (asks_to_build t p) _ (proposed t p) asks (proposed-found t p)
  proposed-found t (Came (Verify u ancestry) ∷ p) asks = proposed-found t p (not_this (t == u) (asks_to_build t p) asks)
  proposed-found t (Came (Subscribe u) ∷ p) asks = proposed-found t p (not_this (t == u) (asks_to_build t p) asks)
  proposed-found t (Came (Finalized u b) ∷ p) asks = proposed-found t p (not_this (t == u) (asks_to_build t p) asks)
  proposed-found t (item ∷ p) asks = proposed-found t p asks

  pub IsLiveProposal-found : (t : ℕ) (p : Past B C I) → live_proposal t p ≡ true → (r : Proposal B C I) × IsLiveProposal t p r
  IsLiveProposal-found t p live =
      let parts = both (is_request (live_ticket t p)) (asks_to_build t p) live in
      let found = proposed-found t p parts.1 in
      (found.0, record { live = request_is (live_ticket t p) parts.0; proposes = found.1 })

  builds : (t u bound : ℕ) (asks : Bool) (mine r : Proposal B C I) (older : Option (Proposal B C I)) → cond (t == u) (Some mine) older ≡ Some r
      → (older ≡ Some r → (t < bound) × (asks ≡ true)) → (t < max (u + 1) bound) × (cond (t == u) true asks ≡ true)
  builds t u bound asks mine r older = go (t == u) refl
    where
      go : (same : Bool) → (t == u) ≡ same → cond same (Some mine) older ≡ Some r
          → (older ≡ Some r → (t < bound) × (asks ≡ true)) → (t < max (u + 1) bound) × (cond same true asks ≡ true)
      go true same is rest = (grind (arith, nat_tests), refl)
      go false same is rest = let low = rest is in (grind arith, low.1)

  -- where tickets came new, what asks for something asks to build
  asks-proposed : (t : ℕ) (p : Past B C I) (r : Proposal B C I) → TicketsCameNew p → proposed t p ≡ Some r → (t < bound_of p) × (asks_to_build t p ≡ true)
  asks-proposed t [] r new is = cc
  asks-proposed t (Came (Prepare u context ancestry input) ∷ p) r new is = builds t u (bound_of p) (asks_to_build t p) _ r (proposed t p) is (λ older. asks-proposed t p r new.1 older)
  asks-proposed t (Came (Propose u context ancestry input) ∷ p) r new is = builds t u (bound_of p) (asks_to_build t p) _ r (proposed t p) is (λ older. asks-proposed t p r new.1 older)
  asks-proposed t (Came (Verify u ancestry) ∷ p) r new is = above_all t u (bound_of p) (asks_to_build t p) new.0 (asks-proposed t p r new.1 is)
  asks-proposed t (Came (Subscribe u) ∷ p) r new is = above_all t u (bound_of p) (asks_to_build t p) new.0 (asks-proposed t p r new.1 is)
  asks-proposed t (Came (Finalized u b) ∷ p) r new is = above_all t u (bound_of p) (asks_to_build t p) new.0 (asks-proposed t p r new.1 is)
  asks-proposed t (item ∷ p) r new is = asks-proposed t p r new is

  pub live_proposal-new : (t : ℕ) (p : Past B C I) (r : Proposal B C I) → TicketsCameNew p → IsLiveProposal t p r → live_proposal t p ≡ true
  live_proposal-new t p r new asks = let builds = asks-proposed t p r new asks.proposes in rw (asks.live, builds.1) refl
