-- What contracts see of a resolver's mailbox.
use Rattle.std.specs.Prelude.{◌≡◌, ℕ, ◌+◌, ◌≤◌, false, if◌then◌else◌, Option, None, List, [], ◌∷◌}
use Rattle.std.specs.Prelude.{◌++◌, filter, length}
use Rattle.stateful_types.specs.Mailbox.{Queues, queues, IsFilled}
use Rattle.stateful_types.specs.declared.mailbox.Feedback.{Feedback}
use Rattle.stateful_types.specs.declared.request.Request.{Request}
use Rattle.stateful_types.specs.declared.response.Response.{Response}
use Rattle.stateful_table.specs.Table.{at, put, without}
use Rattle.stateful_p2p.specs.Tickets.{is_live, is_dropped, ended, answered, live_count}
use Rattle.stateful_p2p.specs.Sending.{Sends}
use Rattle.stateful_p2p.specs.Messages.{kept, is_not_of}
use Rattle.stateful_p2p.specs.declared.message.Message.{Message}
use Rattle.stateful_p2p.specs.declared.message.Message.TheVariants.{AttachDatabase, GetOperations}
use Rattle.stateful_p2p.specs.declared.tickets.Standing.{Standing}
use Rattle.stateful_p2p.specs.declared.tickets.Standing.TheVariants.{Open}

-- The least ticket that wasn't drawn yet, the messages, the tickets and the candidates that wait
-- for them, and the tickets that were cancelled and of which the resolver doesn't know yet.
pub record Inbox (D Op : Type 0) : Type 0 where
  pub next_ticket : ℕ
  pub queue : Queues (Message D)
  pub tickets : List (ℕ × Standing)
  pub candidates : List (ℕ × Response Op)
  pub cancelled : List ℕ

abbrev pub inbox : {D Op : Type 0}
    → ℕ
    → Queues (Message D)
    → List (ℕ × Standing)
    → List (ℕ × Response Op)
    → List ℕ
    → Inbox D Op
inbox next queue tickets candidates cancelled =
    record {
      next_ticket =
          next;
      queue = queue;
      tickets = tickets;
      candidates = candidates;
      cancelled = cancelled;
    }

module _ {D Op : Type 0} where
  -- nothing was asked for
  abbrev pub empty_inbox : ℕ → Inbox D Op
  empty_inbox capacity = inbox 0 (queues capacity [] [] false) [] [] []

  -- a request is on its way, and its ticket is drawn
  pub record Asks (m : Inbox D Op) (request : Request) (feedback : Feedback) (ticket : ℕ)
      (next : Inbox D Op) : Type 0 where
    pub drawn : ticket ≡ m.next_ticket
    pub sends : Sends kept m.queue (GetOperations ticket request) feedback next.queue
    pub others : next
        ≡ record m
        { next_ticket = ticket + 1; queue = next.queue; tickets = put m.tickets ticket Open }

  -- a database is on its way
  pub record Attaches (m : Inbox D Op) (db : D) (feedback : Feedback)
      (next : Inbox D Op) : Type 0 where
    pub sends : Sends kept m.queue (AttachDatabase db) feedback next.queue
    pub others : next ≡ record m { queue = next.queue }

  -- the ticket is let go, and its request takes no room any more if it waits
  abbrev pub let_go : Inbox D Op → ℕ → Inbox D Op
  let_go m t = if is_live m.tickets t
      then record m {
        tickets =
            ended m.tickets t;
        queue =
            record m.queue { overflow = filter (is_not_of t) m.queue.overflow };
      }
      else m

  -- the ticket is let go, which the resolver has to hear
  abbrev pub cancelled : Inbox D Op → ℕ → Inbox D Op
  cancelled m t =
      if is_live m.tickets t then record (let_go m t) { cancelled = m.cancelled ++ t ∷ [] } else m

  -- a candidate waits for the ticket
  abbrev pub offered : Inbox D Op → ℕ → Response Op → Inbox D Op
  offered m t response =
      record m { candidates = put m.candidates t response; tickets = answered m.tickets t }

  -- the same candidate waits for each of some tickets
  abbrev pub offered_each : Inbox D Op → List ℕ → Response Op → Inbox D Op
  offered_each m [] response = m
  offered_each m (t ∷ ts) response = offered_each (offered m t response) ts response

  -- the candidate that waits for a ticket
  abbrev pub waiting_for : Inbox D Op → ℕ → Option (Response Op)
  waiting_for m t = at m.candidates t

  -- it is taken out, unless the ticket was let go before
  abbrev pub taken_out : Inbox D Op → ℕ → Inbox D Op
  taken_out m t =
      if is_dropped m.tickets t then m else record m { candidates = without m.candidates t }

  -- The mailbox is never closed, a ticket that wasn't drawn yet is in no table, and there is room
  -- to note that any live ticket is cancelled.
  pub record IsSound (m : Inbox D Op) (capacity : ℕ) : Type 0 where
    pub still_open : m.queue.closed ≡ false
    pub filled : IsFilled m.queue
    pub fresh : (t : ℕ) → m.next_ticket ≤ t → at m.tickets t ≡ None
    pub room : length m.cancelled + live_count m.tickets ≤ capacity
