-- Messages to the machine.
use Rattle.std.specs.Prelude.{ℕ, ◌==◌, Bool, false, not}
use Rattle.stateful_history.specs.declared.event.Event.{Event}
use Rattle.stateful_history.specs.declared.event.Event.TheVariants as events
use Rattle.stateful_actor_mailbox.specs.declared.reply.Kind.{Kind}
use Rattle.stateful_actor_mailbox.specs.declared.reply.Kind.TheVariants as kinds
use Rattle.stateful_actor_mailbox.specs.declared.message.Ask.{Ask}
use Rattle.stateful_actor_mailbox.specs.declared.message.Ask.TheVariants.{Prepare, Propose, Verify}
use Rattle.stateful_actor_mailbox.specs.declared.message.Ask.TheVariants.{Report, Subscribe}
use Rattle.stateful_actor_mailbox.specs.declared.message.Message.{Message}

module _ {B C I : Type 0} where
  -- by which call it is asked for
  abbrev pub kind_of : Ask B C I → Kind
  kind_of (Prepare context ancestry input) = kinds.Prepare
  kind_of (Propose context ancestry input) = kinds.Propose
  kind_of (Verify ancestry) = kinds.Verify
  kind_of (Report b) = kinds.Report
  kind_of Subscribe = kinds.Subscribe

  abbrev pub event_under : ℕ → Ask B C I → Event B C I
  event_under t (Prepare context ancestry input) = events.Prepare t context ancestry input
  event_under t (Propose context ancestry input) = events.Propose t context ancestry input
  event_under t (Verify ancestry) = events.Verify t ancestry
  event_under t (Report b) = events.Finalized t b
  event_under t Subscribe = events.Subscribe t

  -- the event that a message is to the machine
  abbrev pub event_of : Message B C I → Event B C I
  event_of message = event_under message.ticket message.ask

  -- whether it isn't of this ticket
  abbrev pub is_not_of : ℕ → Message B C I → Bool
  is_not_of t message = not (message.ticket == t)

  -- no message is so
  abbrev pub is_none_of : Message B C I → Bool
  is_none_of message = false
