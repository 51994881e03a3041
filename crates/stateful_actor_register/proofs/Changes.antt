-- A past with one item more, and what its change makes of what was live.
use Rattle.std.proofs.Common.{◌≡◌, ℕ, Bool, true, false, not, eqb, ltb, cond, ◌&&◌, ◌||◌, Option, Some, None, [], ◌∷◌, refl, sym}
use Rattle.std.proofs.lemmas.Bool.{and_right, or_from}
use Rattle.stateful_base.specs.declared.floor.Floor.{Floor}
use Rattle.stateful_base.specs.declared.items.Items.{Items}
use Rattle.stateful_history.specs.Past.{Past, Came, Made}
use Rattle.stateful_history.specs.Opening.{is_down}
use Rattle.stateful_history.specs.Live.{live_ticket, live_job, live_fetch, live_flush, bound_of, seeking, is_request, names_live, may_come}
use Rattle.stateful_history.specs.declared.ticket.Ticket.{Ticket}
use Rattle.stateful_history.specs.declared.ticket.Ticket.TheVariants.{Request, Receipt}
use Rattle.stateful_history.specs.declared.event.Event.{Event}
use Rattle.stateful_history.specs.declared.event.Event.TheVariants.{Verify, Prepare, Propose, Finalized, Subscribe, Cancel, Flushed, Restart}
use Rattle.stateful_history.specs.declared.mark.Mark.{Mark}
use Rattle.stateful_history.specs.declared.mark.Mark.TheVariants.{Opened, Converged, Verdict, Answered, Declined, Databases, Acknowledged, Dropped, BarrierBegun, BarrierDone, Stopped}
use Rattle.stateful_actor_register.specs.Change.{change_by_event, change_by_mark, ticket_after, proposal_after, job_after, fetch_after, flush_after, bound_after, down_after}
use Rattle.stateful_actor_register.specs.Proposals.{asks_to_build, live_proposal}

-- a barrier that begins waits for each database that there is
begun : (same here was : Bool) → (here ≡ false → was ≡ false) → cond same here was ≡ (same && here) || was
begun false here was past = refl
begun true true was past = refl
begun true false was past = sym (past refl)

-- a request that asks for something else, or a receipt
opened : (same : Bool) (kind : Ticket) (live : Option Ticket) (asks : Bool) → not same && (is_request live && asks) ≡ is_request (cond same (Some kind) live) && cond same false asks
opened true Request live asks = refl
opened true Receipt live asks = refl
opened false kind live asks = refl

-- a request to build
asked : (same : Bool) (live : Option Ticket) (asks : Bool) → same || (is_request live && asks) ≡ is_request (cond same (Some Request) live) && cond same true asks
asked true live asks = refl
asked false live asks = refl

-- a ticket that is live no more
closed : (same : Bool) (live : Option Ticket) (asks : Bool) → not same && (is_request live && asks) ≡ is_request (cond same None live) && asks
closed true live asks = refl
closed false live asks = refl

module _ {B C I : Type 0} where
  -- what is live after an event is what its change makes of what was live
  module _ (p : Past B C I) where
    pub live_ticket-came : (t : ℕ) (event : Event B C I) → ticket_after (change_by_event event) t (live_ticket t p) ≡ live_ticket t (Came event ∷ p)
    live_ticket-came t (Verify u ancestry) = refl
    live_ticket-came t event = refl

    pub live_proposal-came : (t : ℕ) (event : Event B C I) → proposal_after (change_by_event event) t (live_proposal t p) ≡ live_proposal t (Came event ∷ p)
    live_proposal-came t (Verify u ancestry) = opened (eqb t u) Request (live_ticket t p) (asks_to_build t p)
    live_proposal-came t (Subscribe u) = opened (eqb t u) Request (live_ticket t p) (asks_to_build t p)
    live_proposal-came t (Finalized u b) = opened (eqb t u) Receipt (live_ticket t p) (asks_to_build t p)
    live_proposal-came t (Prepare u context ancestry input) = asked (eqb t u) (live_ticket t p) (asks_to_build t p)
    live_proposal-came t (Propose u context ancestry input) = asked (eqb t u) (live_ticket t p) (asks_to_build t p)
    live_proposal-came t (Cancel u) = closed (eqb t u) (live_ticket t p) (asks_to_build t p)
    live_proposal-came t event = refl

    pub live_job-came : (j : ℕ) (event : Event B C I) → job_after (change_by_event event) j (live_job j p) ≡ live_job j (Came event ∷ p)
    live_job-came j (Verify u ancestry) = refl
    live_job-came j event = refl

    pub live_fetch-came : (f : ℕ) (event : Event B C I) → fetch_after (change_by_event event) f (live_fetch f p) ≡ live_fetch f (Came event ∷ p)
    live_fetch-came f (Verify u ancestry) = refl
    live_fetch-came f event = refl

    pub live_flush-came : (count k i : ℕ) (event : Event B C I) → flush_after count (change_by_event event) k i (live_flush count k i p) ≡ live_flush count k i (Came event ∷ p)
    live_flush-came count k i (Verify u ancestry) = refl
    live_flush-came count k i event = refl

    pub bound_of-came : (event : Event B C I) → bound_after (change_by_event event) (bound_of p) ≡ bound_of (Came event ∷ p)
    bound_of-came (Verify u ancestry) = refl
    bound_of-came event = refl

    pub is_down-came : (event : Event B C I) → down_after (change_by_event event) (is_down p) ≡ is_down (Came event ∷ p)
    is_down-came (Verify u ancestry) = refl
    is_down-came event = refl

  -- no barrier waits for a database that there isn't
  live_flush-past : (count k i : ℕ) (p : Past B C I) → ltb i count ≡ false → live_flush count k i p ≡ false
  live_flush-past count k i [] past = refl
  live_flush-past count k i (Made (BarrierBegun m height) ∷ p) past = or_from (eqb k m && ltb i count) (live_flush count k i p) (and_right (eqb k m) (ltb i count) past) (live_flush-past count k i p past)
  live_flush-past count k i (Made (BarrierDone m height good) ∷ p) past = and_right (not (eqb k m)) (live_flush count k i p) (live_flush-past count k i p past)
  live_flush-past count k i (Made Stopped ∷ p) past = refl
  live_flush-past count k i (Came (Flushed m n answer) ∷ p) past = and_right (not (eqb k m && eqb i n)) (live_flush count k i p) (live_flush-past count k i p past)
  live_flush-past count k i (Came (Restart floor keep) ∷ p) past = refl
  live_flush-past count k i (item ∷ p) past = live_flush-past count k i p past

  -- what is live after a mark is what its change makes of what was live
  module _ (p : Past B C I) where
    pub live_ticket-made : (t : ℕ) (mark : Mark B) → ticket_after (change_by_mark mark) t (live_ticket t p) ≡ live_ticket t (Made mark ∷ p)
    live_ticket-made t Stopped = refl
    live_ticket-made t mark = refl

    pub live_proposal-made : (t : ℕ) (mark : Mark B) → proposal_after (change_by_mark mark) t (live_proposal t p) ≡ live_proposal t (Made mark ∷ p)
    live_proposal-made t (Verdict u valid) = closed (eqb t u) (live_ticket t p) (asks_to_build t p)
    live_proposal-made t (Answered u decision b) = closed (eqb t u) (live_ticket t p) (asks_to_build t p)
    live_proposal-made t (Declined u) = closed (eqb t u) (live_ticket t p) (asks_to_build t p)
    live_proposal-made t (Databases u) = closed (eqb t u) (live_ticket t p) (asks_to_build t p)
    live_proposal-made t (Acknowledged u height) = closed (eqb t u) (live_ticket t p) (asks_to_build t p)
    live_proposal-made t (Dropped u) = closed (eqb t u) (live_ticket t p) (asks_to_build t p)
    live_proposal-made t Stopped = refl
    live_proposal-made t mark = refl

    pub live_job-made : (j : ℕ) (mark : Mark B) → job_after (change_by_mark mark) j (live_job j p) ≡ live_job j (Made mark ∷ p)
    live_job-made j Stopped = refl
    live_job-made j mark = refl

    pub live_fetch-made : (f : ℕ) (mark : Mark B) → fetch_after (change_by_mark mark) f (live_fetch f p) ≡ live_fetch f (Made mark ∷ p)
    live_fetch-made f Stopped = refl
    live_fetch-made f mark = refl

    pub live_flush-made : (count k i : ℕ) (mark : Mark B) → flush_after count (change_by_mark mark) k i (live_flush count k i p) ≡ live_flush count k i (Made mark ∷ p)
    live_flush-made count k i (BarrierBegun m height) = begun (eqb k m) (ltb i count) (live_flush count k i p) (live_flush-past count k i p)
    live_flush-made count k i mark = refl

    pub bound_of-made : (mark : Mark B) → bound_after (change_by_mark mark) (bound_of p) ≡ bound_of (Made mark ∷ p)
    bound_of-made Stopped = refl
    bound_of-made mark = refl

    pub seeking-came : (event : Event B C I) → seeking p ≡ [] → seeking (Came event ∷ p) ≡ []
    seeking-came (Restart floor keep) none = refl
    seeking-came event none = none

    pub seeking-made : (mark : Mark B) → seeking p ≡ [] → seeking (Made mark ∷ p) ≡ []
    seeking-made (Opened anchor) none = refl
    seeking-made (Converged anchor) none = refl
    seeking-made Stopped none = refl
    seeking-made mark none = none

    pub is_down-made : (mark : Mark B) → down_after (change_by_mark mark) (is_down p) ≡ is_down (Made mark ∷ p)
    is_down-made Stopped = refl
    is_down-made mark = refl

  -- another event than a restart may come where the machine isn't down and the event names live work
  pub other_may_come : (count : ℕ) (p : Past B C I) (event : Event B C I) → ((floor : Floor) (keep : Items ℕ) → event ≡ Restart floor keep → ⊥) → may_come count p event ≡ not (is_down p) && names_live count p event
  other_may_come count p (Restart floor keep) other = absurd (other floor keep refl)
  other_may_come count p event other = refl
