-- Live requests to build.
use Rattle.std.specs.Prelude.{◌≡◌, ℕ, ◌==◌, Bool, true, false, ◌&&◌, if◌then◌else◌, [], ◌∷◌}
use Rattle.stateful_history.specs.Past.{Past, Came}
use Rattle.stateful_history.specs.Live.{live_ticket, is_request, is_new}
use Rattle.stateful_history.specs.declared.event.Event.TheVariants.{Verify, Prepare, Propose}
use Rattle.stateful_history.specs.declared.event.Event.TheVariants.{Finalized, Subscribe}

module _ {B C I : Type 0} where
  -- the last event under this ticket is a request to build
  abbrev pub asks_to_build : ℕ → Past B C I → Bool
  asks_to_build t [] = false
  asks_to_build t (Came (Prepare u context ancestry input) ∷ p) =
      if t == u then true else asks_to_build t p
  asks_to_build t (Came (Propose u context ancestry input) ∷ p) =
      if t == u then true else asks_to_build t p
  asks_to_build t (Came (Verify u ancestry) ∷ p) = if t == u then false else asks_to_build t p
  asks_to_build t (Came (Subscribe u) ∷ p) = if t == u then false else asks_to_build t p
  asks_to_build t (Came (Finalized u b) ∷ p) = if t == u then false else asks_to_build t p
  asks_to_build t (item ∷ p) = asks_to_build t p

  -- a request to build that is live
  abbrev pub live_proposal : ℕ → Past B C I → Bool
  live_proposal t p = is_request (live_ticket t p) && asks_to_build t p

  -- each request and receipt came under a ticket above every earlier one
  abbrev pub TicketsCameNew : Past B C I → Type 0
  TicketsCameNew [] = Unit {0}
  TicketsCameNew (Came (Verify u ancestry) ∷ p) = (is_new u p ≡ true) × TicketsCameNew p
  TicketsCameNew (Came (Prepare u context ancestry input) ∷ p) =
      (is_new u p ≡ true) × TicketsCameNew p
  TicketsCameNew (Came (Propose u context ancestry input) ∷ p) =
      (is_new u p ≡ true) × TicketsCameNew p
  TicketsCameNew (Came (Subscribe u) ∷ p) = (is_new u p ≡ true) × TicketsCameNew p
  TicketsCameNew (Came (Finalized u b) ∷ p) = (is_new u p ≡ true) × TicketsCameNew p
  TicketsCameNew (item ∷ p) = TicketsCameNew p
