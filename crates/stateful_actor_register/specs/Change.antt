-- What events and marks do to the live work.
use Rattle.std.specs.Prelude.{ℕ, ◌+◌, max, Bool, true, false, not, ◌==◌, ◌&&◌, ◌||◌, nat_lt}
use Rattle.std.specs.Prelude.{if◌then◌else◌, Option, Some, None, List, ◌∷◌, map}
use Rattle.stateful_history.specs.declared.ticket.Ticket.{Ticket}
use Rattle.stateful_history.specs.declared.ticket.Ticket.TheVariants.{Request, Receipt}
use Rattle.stateful_history.specs.declared.event.Event.{Event}
use Rattle.stateful_history.specs.declared.event.Event.TheVariants.{Verify, Prepare, Propose}
use Rattle.stateful_history.specs.declared.event.Event.TheVariants.{Finalized, Subscribe, Cancel}
use Rattle.stateful_history.specs.declared.event.Event.TheVariants.{Fetched, Flushed, Restart}
use Rattle.stateful_history.specs.declared.mark.Mark.{Mark}
use Rattle.stateful_history.specs.declared.mark.Mark.TheVariants.{Asked, Withdrawn, Started, Ended}
use Rattle.stateful_history.specs.declared.mark.Mark.TheVariants.{Built, Verdict, Answered}
use Rattle.stateful_history.specs.declared.mark.Mark.TheVariants.{Declined, Databases, BarrierBegun}
use Rattle.stateful_history.specs.declared.mark.Mark.TheVariants.{BarrierDone, Acknowledged}
use Rattle.stateful_history.specs.declared.mark.Mark.TheVariants.{Dropped, Stopped}
use Rattle.stateful_actor_register.specs.declared.change.Change.{Change}
use Rattle.stateful_actor_register.specs.declared.change.Change.TheVariants.{Opens, Proposes, Closes}
use Rattle.stateful_actor_register.specs.declared.change.Change.TheVariants.{Asks, EndsFetch, StartsJob}
use Rattle.stateful_actor_register.specs.declared.change.Change.TheVariants.{EndsJob, BeginsBarrier}
use Rattle.stateful_actor_register.specs.declared.change.Change.TheVariants.{Flushes, EndsBarrier, Starts}
use Rattle.stateful_actor_register.specs.declared.change.Change.TheVariants.{Stops, Keeps}

abbrev pub change_by_event : {B C I : Type 0} → Event B C I → Change
change_by_event (Verify t ancestry) = Opens t Request
change_by_event (Prepare t context ancestry input) = Proposes t
change_by_event (Propose t context ancestry input) = Proposes t
change_by_event (Subscribe t) = Opens t Request
change_by_event (Finalized t b) = Opens t Receipt
change_by_event (Cancel t) = Closes t
change_by_event (Fetched f answer) = EndsFetch f
change_by_event (Flushed k i answer) = Flushes k i
change_by_event (Restart floor keep) = Starts
change_by_event event = Keeps

abbrev pub change_by_mark : {B : Type 0} → Mark B → Change
change_by_mark (Asked f ticket digest) = Asks f
change_by_mark (Withdrawn f) = EndsFetch f
change_by_mark (Started j kind digest) = StartsJob j
change_by_mark (Ended j how) = EndsJob j
change_by_mark (Built j t b) = EndsJob j
change_by_mark (Verdict t valid) = Closes t
change_by_mark (Answered t decision b) = Closes t
change_by_mark (Declined t) = Closes t
change_by_mark (Databases t) = Closes t
change_by_mark (Acknowledged t height) = Closes t
change_by_mark (Dropped t) = Closes t
change_by_mark (BarrierBegun k height) = BeginsBarrier k
change_by_mark (BarrierDone k height good) = EndsBarrier k
change_by_mark Stopped = Stops
change_by_mark mark = Keeps

-- what an event and its marks change, one after another
abbrev pub changes_of : {B C I : Type 0} → Event B C I → List (Mark B) → List Change
changes_of event marks = change_by_event event ∷ map change_by_mark marks

-- a barrier begins by the change
abbrev pub begins_barrier : Change → Bool
begins_barrier (BeginsBarrier k) = true
begins_barrier change = false

-- what a ticket stands for after a change
abbrev pub ticket_after : Change → ℕ → Option Ticket → Option Ticket
ticket_after (Opens u kind) t was = if t == u then Some kind else was
ticket_after (Proposes u) t was = if t == u then Some Request else was
ticket_after (Closes u) t was = if t == u then None else was
ticket_after change t was = was

-- whether a ticket is that of a live request to build after a change
abbrev pub proposal_after : Change → ℕ → Bool → Bool
proposal_after (Opens u kind) t was = not (t == u) && was
proposal_after (Proposes u) t was = (t == u) || was
proposal_after (Closes u) t was = not (t == u) && was
proposal_after change t was = was

-- whether a job is live after a change
abbrev pub job_after : Change → ℕ → Bool → Bool
job_after (StartsJob k) j was = (j == k) || was
job_after (EndsJob k) j was = not (j == k) && was
job_after change j was = was

-- whether a fetch is live after a change
abbrev pub fetch_after : Change → ℕ → Bool → Bool
fetch_after (Asks g) f was = (f == g) || was
fetch_after (EndsFetch g) f was = not (f == g) && was
fetch_after change f was = was

-- whether a barrier waits for a database after a change, where there are so many databases
abbrev pub flush_after : ℕ → Change → ℕ → ℕ → Bool → Bool
flush_after count (BeginsBarrier m) k i was = if k == m then nat_lt i count else was
flush_after count (Flushes m n) k i was = not ((k == m) && (i == n)) && was
flush_after count (EndsBarrier m) k i was = not (k == m) && was
flush_after count Starts k i was = false
flush_after count Stops k i was = false
flush_after count change k i was = was

-- the least new ticket after a change
abbrev pub bound_after : Change → ℕ → ℕ
bound_after (Opens t kind) was = max (t + 1) was
bound_after (Proposes t) was = max (t + 1) was
bound_after change was = was

-- whether the machine is down after a change
abbrev pub down_after : Change → Bool → Bool
down_after Starts was = false
down_after Stops was = true
down_after change was = was
