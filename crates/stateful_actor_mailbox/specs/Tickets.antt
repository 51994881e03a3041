-- How the tickets of a mailbox stand.
use Rattle.std.specs.Prelude.{◌≡◌, ℕ, ◌≤◌, nat_lt, nat_le, ◌&&◌, Bool, true, false, not}
use Rattle.std.specs.Prelude.{if◌then◌else◌, Option, Some, None, is_some, option_map, Result, List}
use Rattle.std.specs.Prelude.{[]}
use Rattle.std.specs.List.{find}
use Rattle.stateful_table.specs.Table.{at, put, without}
use Rattle.stateful_actor_mailbox.specs.Replies.{is_request, outcome, gone}
use Rattle.stateful_actor_mailbox.specs.declared.note.Answer.{Answer}
use Rattle.stateful_actor_mailbox.specs.declared.reply.Kind.{Kind}
use Rattle.stateful_actor_mailbox.specs.declared.reply.Reply.{Reply}
use Rattle.stateful_actor_mailbox.specs.declared.reply.Stopped.{Stopped}
use Rattle.stateful_actor_mailbox.specs.declared.tickets.Ticket.{Ticket}
use Rattle.stateful_actor_mailbox.specs.declared.tickets.Standing.{Standing}
use Rattle.stateful_actor_mailbox.specs.declared.tickets.Standing.TheVariants.{Queued, Handed, Due}
use Rattle.stateful_actor_mailbox.specs.declared.tickets.Standing.TheVariants.{Cancelled, Ended}

-- The tickets whose end wasn't handed out yet. Those below a number were ended by a stop, unless
-- they had ended before.
pub record Book (B : Type 0) : Type 0 where
  pub entries : List (ℕ × Ticket B)
  pub stopped : ℕ

abbrev pub book : {B : Type 0} → List (ℕ × Ticket B) → ℕ → Book B
book entries stopped = record { entries = entries; stopped = stopped }

-- ---- one ticket

module _ {B : Type 0} where
  -- a ticket that was drawn by this call and has come so far
  abbrev pub ticket_of : Kind → Standing B → Ticket B
  ticket_of kind standing = record { kind = kind; standing = standing }

  abbrev pub stands_queued : Standing B → Bool
  stands_queued Queued = true
  stands_queued standing = false

  abbrev pub stands_due : Standing B → Bool
  stands_due Due = true
  stands_due standing = false

  -- how it has ended, if a mark has ended it
  abbrev pub end_of : Standing B → Option (Result (Reply B) Stopped)
  end_of (Ended outcome) = Some outcome
  end_of standing = None

  -- what becomes of a ticket whose message is handed out
  abbrev pub handing : Option (Ticket B) → Option (Ticket B)
  handing None = None
  handing (Some ticket) = Some (ticket_of ticket.kind Handed)

  -- what becomes of a request of this standing that is cancelled, if anything does
  abbrev pub cancelling_from : Kind → Standing B → Option (Ticket B)
  cancelling_from kind Queued = Some (ticket_of kind Cancelled)
  cancelling_from kind Handed = Some (ticket_of kind Due)
  cancelling_from kind standing = None

  abbrev pub cancelling : Option (Ticket B) → Option (Ticket B)
  cancelling None = None
  cancelling (Some ticket) =
      if is_request ticket.kind then cancelling_from ticket.kind ticket.standing else None

  -- what becomes of a ticket of whose cancelling the machine is told
  abbrev pub telling : Option (Ticket B) → Option (Ticket B)
  telling None = None
  telling (Some ticket) = Some (ticket_of ticket.kind Cancelled)

  abbrev pub ended_by : Kind → Option (Result (Reply B) Stopped) → Option (Ticket B)
  ended_by kind None = None
  ended_by kind (Some outcome) = Some (ticket_of kind (Ended outcome))

  -- what becomes of a ticket that is answered so, if that ends it
  abbrev pub ending : Answer B → Option (Ticket B) → Option (Ticket B)
  ending answer None = None
  ending answer (Some ticket) =
      if is_some (end_of ticket.standing) then None
      else ended_by ticket.kind (outcome ticket.kind answer)

  -- how a ticket ended by a stop, if it wasn't ended before
  abbrev pub end_by_stop : Ticket B
      → Option (Result (Reply B) Stopped)
      → Option (Result (Reply B) Stopped)
  end_by_stop ticket None = Some (gone ticket.kind)
  end_by_stop ticket (Some outcome) = Some outcome

  -- how a ticket has ended, if it has
  abbrev pub outcome_from : Bool → Option (Ticket B) → Option (Result (Reply B) Stopped)
  outcome_from was_stopped None = None
  outcome_from was_stopped (Some ticket) =
      if was_stopped then end_by_stop ticket (end_of ticket.standing) else end_of ticket.standing

  abbrev pub is_queued_from : Bool → Option (Ticket B) → Bool
  is_queued_from was_stopped None = false
  is_queued_from was_stopped (Some ticket) = not was_stopped && stands_queued ticket.standing

  abbrev pub is_request_from : Option (Ticket B) → Bool
  is_request_from None = false
  is_request_from (Some ticket) = is_request ticket.kind

-- ---- all of them

module _ {B : Type 0} where
  abbrev pub empty_book : Book B
  empty_book = book [] 0

  -- with what becomes of this ticket, if anything does
  abbrev pub moved : Book B → ℕ → Option (Ticket B) → Book B
  moved k t None = k
  moved k t (Some ticket) = record k { entries = put k.entries t ticket }

  -- a stop has ended the ticket, unless it had ended before
  abbrev pub was_stopped : Book B → ℕ → Bool
  was_stopped k t = nat_lt t k.stopped

  -- the ticket is drawn by a call
  abbrev pub opened : Book B → ℕ → Kind → Book B
  opened k t kind = record k { entries = put k.entries t (ticket_of kind Queued) }

  -- the message of the ticket is still to be handed out: it was neither cancelled nor ended
  abbrev pub is_queued : Book B → ℕ → Bool
  is_queued k t = is_queued_from (was_stopped k t) (at k.entries t)

  -- the message of the ticket was handed out
  abbrev pub handed_out : Book B → ℕ → Book B
  handed_out k t = moved k t (handing (at k.entries t))

  -- The ticket is cancelled, unless it is that of a receipt, has ended or isn't there. Where its
  -- message was handed out, the machine is to be told.
  abbrev pub cancelled : Book B → ℕ → Book B
  cancelled k t = if was_stopped k t then k else moved k t (cancelling (at k.entries t))

  -- the message of the request is still to be handed out, and won't be once it is cancelled
  abbrev pub may_withdraw : Book B → ℕ → Bool
  may_withdraw k t = is_request_from (at k.entries t) && is_queued k t

  -- the machine is to be told that the ticket of this entry was cancelled
  abbrev pub is_due : ℕ → (ℕ × Ticket B) → Bool
  is_due stopped entry = nat_le stopped entry.0 && stands_due entry.1.standing

  abbrev pub due_among : ℕ → List (ℕ × Ticket B) → Option ℕ
  due_among stopped entries = option_map (λ entry. entry.0) (find (is_due stopped) entries)

  -- the least ticket of whose cancelling the machine is to be told
  abbrev pub first_due : Book B → Option ℕ
  first_due k = due_among k.stopped k.entries

  -- the machine was told that this ticket was cancelled
  abbrev pub told : Book B → ℕ → Book B
  told k t = moved k t (telling (at k.entries t))

  abbrev pub told_of : Book B → Option ℕ → Book B
  told_of k None = k
  told_of k (Some t) = told k t

  -- it was told of the least such ticket, if there is one
  abbrev pub told_due : Book B → Book B
  told_due k = told_of k (first_due k)

  -- the ticket is ended by the answer, unless it has ended, isn't there, or this is no answer to it
  abbrev pub ended : Book B → ℕ → Answer B → Book B
  ended k t answer = if was_stopped k t then k else moved k t (ending answer (at k.entries t))

  -- how the ticket has ended, if it has
  abbrev pub outcome_of : Book B → ℕ → Option (Result (Reply B) Stopped)
  outcome_of k t = outcome_from (was_stopped k t) (at k.entries t)

  -- how it has ended was taken out, if it has
  abbrev pub taken_out : Book B → ℕ → Book B
  taken_out k t = if is_some (outcome_of k t) then record k { entries = without k.entries t } else k

  -- a ticket from this number on isn't there, and no stop has ended it
  pub record AreBelow (next : ℕ) (k : Book B) : Type 0 where
    pub fresh : (t : ℕ) → next ≤ t → at k.entries t ≡ None
    pub stopped : k.stopped ≤ next
