-- What is live at a place, and which events may come there.
use Rattle.std.specs.Prelude.{ℕ, ◌+◌, Bool, true, false, not, nat_lt, ◌==◌, ◌&&◌, ◌||◌, max}
use Rattle.std.specs.Prelude.{if◌then◌else◌, Option, Some, None, List, [], ◌∷◌}
use Rattle.std.specs.List.{list_any}
use Rattle.stateful_history.specs.Past.{Past, Came, Made, Seeking}
use Rattle.stateful_history.specs.Opening.{is_down}
use Rattle.stateful_history.specs.declared.ticket.Ticket.{Ticket}
use Rattle.stateful_history.specs.declared.ticket.Ticket.TheVariants.{Request, Receipt}
use Rattle.stateful_history.specs.declared.event.Event.{Event}
use Rattle.stateful_history.specs.declared.event.Event.TheVariants.{Verify, Prepare, Propose}
use Rattle.stateful_history.specs.declared.event.Event.TheVariants.{Finalized, Subscribe, Cancel}
use Rattle.stateful_history.specs.declared.event.Event.TheVariants.{Fetched, Turn, Flushed}
use Rattle.stateful_history.specs.declared.event.Event.TheVariants.{Progress, Stop, Restart}
use Rattle.stateful_history.specs.declared.mark.Mark.TheVariants.{Asked, Withdrawn, Started, Ended}
use Rattle.stateful_history.specs.declared.mark.Mark.TheVariants.{Built, Verdict, Answered}
use Rattle.stateful_history.specs.declared.mark.Mark.TheVariants.{Declined, Databases, BarrierBegun}
use Rattle.stateful_history.specs.declared.mark.Mark.TheVariants.{BarrierDone, Acknowledged}
use Rattle.stateful_history.specs.declared.mark.Mark.TheVariants.{Dropped, Stopped, Opened}
use Rattle.stateful_history.specs.declared.mark.Mark.TheVariants.{Converged}

-- a request that may be cancelled
abbrev pub is_request : Option Ticket → Bool
is_request (Some Request) = true
is_request ticket = false

module _ {B C I : Type 0} where
  -- A request or receipt is live from its event to the mark that answers or drops it, or to the
  -- cancel of a request.
  abbrev pub live_ticket : ℕ → Past B C I → Option Ticket
  live_ticket t [] = None
  live_ticket t (Came (Verify u ancestry) ∷ p) = if t == u then Some Request else live_ticket t p
  live_ticket t (Came (Prepare u context ancestry input) ∷ p) =
      if t == u then Some Request else live_ticket t p
  live_ticket t (Came (Propose u context ancestry input) ∷ p) =
      if t == u then Some Request else live_ticket t p
  live_ticket t (Came (Subscribe u) ∷ p) = if t == u then Some Request else live_ticket t p
  live_ticket t (Came (Finalized u b) ∷ p) = if t == u then Some Receipt else live_ticket t p
  live_ticket t (Came (Cancel u) ∷ p) = if t == u then None else live_ticket t p
  live_ticket t (Made (Verdict u valid) ∷ p) = if t == u then None else live_ticket t p
  live_ticket t (Made (Answered u decision b) ∷ p) = if t == u then None else live_ticket t p
  live_ticket t (Made (Declined u) ∷ p) = if t == u then None else live_ticket t p
  live_ticket t (Made (Databases u) ∷ p) = if t == u then None else live_ticket t p
  live_ticket t (Made (Acknowledged u height) ∷ p) = if t == u then None else live_ticket t p
  live_ticket t (Made (Dropped u) ∷ p) = if t == u then None else live_ticket t p
  live_ticket t (item ∷ p) = live_ticket t p

  -- the least number above every ticket so far
  abbrev pub bound_of : Past B C I → ℕ
  bound_of [] = 0
  bound_of (Came (Verify u ancestry) ∷ p) = max (u + 1) (bound_of p)
  bound_of (Came (Prepare u context ancestry input) ∷ p) = max (u + 1) (bound_of p)
  bound_of (Came (Propose u context ancestry input) ∷ p) = max (u + 1) (bound_of p)
  bound_of (Came (Subscribe u) ∷ p) = max (u + 1) (bound_of p)
  bound_of (Came (Finalized u b) ∷ p) = max (u + 1) (bound_of p)
  bound_of (item ∷ p) = bound_of p

  -- a job is live from its start to its end, or until it has built
  abbrev pub live_job : ℕ → Past B C I → Bool
  live_job j [] = false
  live_job j (Made (Started k kind digest) ∷ p) = (j == k) || live_job j p
  live_job j (Made (Ended k how) ∷ p) = not (j == k) && live_job j p
  live_job j (Made (Built k t b) ∷ p) = not (j == k) && live_job j p
  live_job j (item ∷ p) = live_job j p

  -- a fetch is live until it is answered or withdrawn
  abbrev pub live_fetch : ℕ → Past B C I → Bool
  live_fetch f [] = false
  live_fetch f (Made (Asked g ticket digest) ∷ p) = (f == g) || live_fetch f p
  live_fetch f (Came (Fetched g answer) ∷ p) = not (f == g) && live_fetch f p
  live_fetch f (Made (Withdrawn g) ∷ p) = not (f == g) && live_fetch f p
  live_fetch f (item ∷ p) = live_fetch f p

  -- A database of a barrier waits for its flush from the barrier's begin to that flush, or to the
  -- barrier's end. The first number says how many databases there are.
  abbrev pub live_flush : ℕ → ℕ → ℕ → Past B C I → Bool
  live_flush count k i [] = false
  live_flush count k i (Made (BarrierBegun m height) ∷ p) =
      ((k == m) && nat_lt i count) || live_flush count k i p
  live_flush count k i (Came (Flushed m n answer) ∷ p) =
      not ((k == m) && (i == n)) && live_flush count k i p
  live_flush count k i (Made (BarrierDone m height good) ∷ p) =
      not (k == m) && live_flush count k i p
  live_flush count k i (Made Stopped ∷ p) = false
  live_flush count k i (Came (Restart floor keep) ∷ p) = false
  live_flush count k i (item ∷ p) = live_flush count k i p

  -- The databases that are live for progress: those that a sync was last said to wait for, until it
  -- converges, the machine is stopped, or the next restart.
  abbrev pub seeking : Past B C I → List ℕ
  seeking [] = []
  seeking (Seeking databases ∷ p) = databases
  seeking (Came (Restart floor keep) ∷ p) = []
  seeking (Made (Opened anchor) ∷ p) = []
  seeking (Made (Converged anchor) ∷ p) = []
  seeking (Made Stopped ∷ p) = []
  seeking (item ∷ p) = seeking p

  -- the ticket is above every earlier one
  abbrev pub is_new : ℕ → Past B C I → Bool
  is_new t p = not (nat_lt t (bound_of p))

  -- the event names live work and new tickets alone
  abbrev pub names_live : ℕ → Past B C I → Event B C I → Bool
  names_live count p (Verify t ancestry) = is_new t p
  names_live count p (Prepare t context ancestry input) = is_new t p
  names_live count p (Propose t context ancestry input) = is_new t p
  names_live count p (Subscribe t) = is_new t p
  names_live count p (Finalized t b) = is_new t p
  names_live count p (Cancel t) = is_request (live_ticket t p)
  names_live count p (Fetched f answer) = live_fetch f p
  names_live count p (Turn j) = live_job j p
  names_live count p (Flushed k i answer) = live_flush count k i p
  names_live count p (Progress i) = list_any (λ j. j == i) (seeking p)
  names_live count p Stop = true
  names_live count p (Restart floor keep) = true

  -- a restart may always come, and any other event where the machine isn't down and the event names
  -- live work
  abbrev pub may_come : ℕ → Past B C I → Event B C I → Bool
  may_come count p (Restart floor keep) = true
  may_come count p event = not (is_down p) && names_live count p event
