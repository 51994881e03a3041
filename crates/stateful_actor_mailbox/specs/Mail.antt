-- What contracts see of a mailbox.
use Rattle.std.specs.Prelude.{◌≡◌, ℕ, ◌+◌, Bool, true, false, if◌then◌else◌, Option, Some, None}
use Rattle.std.specs.Prelude.{Result, Ok, Err, List, [], ◌∷◌, ◌++◌, filter, fold, All}
use Rattle.std.specs.List.{filter_map}
use Rattle.stateful_types.specs.Mailbox.{Queues, queues, messages, IsFilled}
use Rattle.stateful_types.specs.declared.mailbox.Feedback.{Feedback}
use Rattle.stateful_base.specs.declared.outcome.Moved.{Moved}
use Rattle.stateful_base.specs.declared.outcome.Moved.TheVariants.{Pending, Done}
use Rattle.stateful_history.specs.declared.event.Event.{Event}
use Rattle.stateful_history.specs.declared.event.Event.TheVariants.{Cancel}
use Rattle.stateful_history.specs.declared.mark.Mark.{Mark}
use Rattle.stateful_actor_mailbox.specs.Replies.{note_of}
use Rattle.stateful_actor_mailbox.specs.Sending.{Sends}
use Rattle.stateful_actor_mailbox.specs.Messages.{kind_of, event_of, is_not_of, is_none_of}
use Rattle.stateful_actor_mailbox.specs.Tickets.{Book, empty_book, opened, is_queued, handed_out}
use Rattle.stateful_actor_mailbox.specs.Tickets.{cancelled, may_withdraw, first_due, told_due, ended}
use Rattle.stateful_actor_mailbox.specs.Tickets.{outcome_of, taken_out, AreBelow}
use Rattle.stateful_actor_mailbox.specs.declared.message.Ask.{Ask}
use Rattle.stateful_actor_mailbox.specs.declared.message.Message.{Message}
use Rattle.stateful_actor_mailbox.specs.declared.note.Note.{Note}
use Rattle.stateful_actor_mailbox.specs.declared.note.Note.TheVariants.{Ends, Stops}
use Rattle.stateful_actor_mailbox.specs.declared.reply.Reply.{Reply}
use Rattle.stateful_actor_mailbox.specs.declared.reply.Stopped.{Stopped}

-- The least ticket that wasn't drawn yet, the messages, and the tickets.
pub record Mail (B C I : Type 0) : Type 0 where
  pub next_ticket : ℕ
  pub queue : Queues (Message B C I)
  pub tickets : Book B

abbrev pub mail : {B C I : Type 0} → ℕ → Queues (Message B C I) → Book B → Mail B C I
mail next queue tickets = record { next_ticket = next; queue = queue; tickets = tickets }

-- what is told of a ticket that has ended so, or hasn't
abbrev pub polled_as : {B : Type 0}
    → Option (Result (Reply B) Stopped)
    → Result (Moved (Reply B)) Stopped
polled_as None = Ok Pending
polled_as (Some (Ok reply)) = Ok (Done reply)
polled_as (Some (Err stopped)) = Err stopped

module _ {B C I : Type 0} where
  -- nothing was asked for
  abbrev pub empty_mail : ℕ → Mail B C I
  empty_mail capacity = mail 0 (queues capacity [] [] false) empty_book

  abbrev pub message_of : ℕ → Ask B C I → Message B C I
  message_of t ask = record { ticket = t; ask = ask }

  -- what is asked for is on its way, and its ticket is drawn
  pub record Asks (m : Mail B C I) (ask : Ask B C I) (feedback : Feedback) (ticket : ℕ)
      (next : Mail B C I) : Type 0 where
    pub drawn : ticket ≡ m.next_ticket
    pub sends : Sends m.queue (message_of ticket ask) feedback next.queue
    pub others : next ≡ mail (ticket + 1) next.queue (opened m.tickets ticket (kind_of ask))

  -- the messages that wait and of which this holds stay, and the others take no room any more
  abbrev pub with_waiting : (Message B C I → Bool) → Queues (Message B C I) → Queues (Message B C I)
  with_waiting live queue = record queue { overflow = filter live queue.overflow }

  -- the ticket is cancelled, and a message of its own takes no room any more if it waits
  abbrev pub cancelled_mail : Mail B C I → ℕ → Mail B C I
  cancelled_mail m t = mail m.next_ticket
      (if may_withdraw m.tickets t then with_waiting (is_not_of t) m.queue else m.queue)
      (cancelled m.tickets t)

  -- the message isn't to be handed out any more
  abbrev pub IsPassed : Book B → Message B C I → Type 0
  IsPassed tickets message = is_queued tickets message.ticket ≡ false

  -- as many messages may be ready as before, and it is closed where it was
  pub record SameShape (before after : Queues (Message B C I)) : Type 0 where
    pub capacity : after.capacity ≡ before.capacity
    pub closed : after.closed ≡ before.closed

  -- the first message that is still to be handed out is taken out, and those before it are dropped
  pub data HandsOut (m : Mail B C I) : Option (Message B C I) → Mail B C I → Type 0 where
    nothing : {queue : Queues (Message B C I)}
        → All (IsPassed m.tickets) (messages m.queue)
        → messages queue ≡ []
        → SameShape m.queue queue
        → HandsOut m None (record m { queue = queue })
    message : {queue : Queues (Message B C I)} {first : Message B C I}
        (passed : List (Message B C I))
        → messages m.queue ≡ passed ++ first ∷ messages queue
        → All (IsPassed m.tickets) passed
        → is_queued m.tickets first.ticket ≡ true
        → SameShape m.queue queue
        → HandsOut m (Some first) (record m { queue = queue })

  -- The machine is told of the least ticket that was cancelled behind its event and of which it
  -- wasn't told yet. Where there is none, the first message that is still to be handed out is, if
  -- there is one.
  pub data Takes (m : Mail B C I) : Option (Event B C I) → Mail B C I → Type 0 where
    cancel : {t : ℕ}
        → first_due m.tickets ≡ Some t
        → Takes m (Some (Cancel t)) (record m { tickets = told_due m.tickets })
    event : {message : Message B C I} {next : Mail B C I}
        → first_due m.tickets ≡ None
        → HandsOut m (Some message) next
        → Takes m (Some (event_of message))
        (record next { tickets = handed_out m.tickets message.ticket })
    nothing : {next : Mail B C I}
        → first_due m.tickets ≡ None
        → HandsOut m None next
        → Takes m None next

  -- a ticket is ended, or all are, and then no message takes room any more
  abbrev pub noted : Mail B C I → Note B → Mail B C I
  noted m (Ends t answer) = record m { tickets = ended m.tickets t answer }
  noted m Stops =
      mail m.next_ticket (with_waiting is_none_of m.queue)
      (record m.tickets { stopped = m.next_ticket })

  -- what the marks tell of tickets is noted, one behind the other
  abbrev pub answered : Mail B C I → List (Mark B) → Mail B C I
  answered m marks = fold noted m (filter_map note_of marks)

  -- how the ticket has ended, or that it hasn't
  abbrev pub polled : Mail B C I → ℕ → Result (Moved (Reply B)) Stopped
  polled m t = polled_as (outcome_of m.tickets t)

  -- that was handed out
  abbrev pub taken_mail : Mail B C I → ℕ → Mail B C I
  taken_mail m t = record m { tickets = taken_out m.tickets t }

  -- The mailbox is never closed, messages wait only where no more may be ready, and no ticket is
  -- there that wasn't drawn.
  pub record IsSound (m : Mail B C I) : Type 0 where
    pub still_open : m.queue.closed ≡ false
    pub filled : IsFilled m.queue
    pub tickets : AreBelow m.next_ticket m.tickets
