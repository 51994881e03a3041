-- What a request leaves of a mailbox.
use Rattle.std.proofs.Common.{◌+◌, refl}
use Rattle.stateful_types.specs.Mailbox.{Queues}
use Rattle.stateful_types.specs.declared.mailbox.Feedback.{Feedback}
use Rattle.stateful_actor_mailbox.specs.Sending.{Sends}
use Rattle.stateful_actor_mailbox.specs.Messages.{kind_of}
use Rattle.stateful_actor_mailbox.specs.Tickets.{opened}
use Rattle.stateful_actor_mailbox.specs.Mail.{Mail, mail, message_of, Asks}
use Rattle.stateful_actor_mailbox.specs.declared.message.Ask.{Ask}
use Rattle.stateful_actor_mailbox.specs.declared.message.Message.{Message}

module _ {B C I : Type 0} where
  pub asks : (m : Mail B C I) (ask : Ask B C I) (after : Queues (Message B C I)) (feedback : Feedback)
      → Sends m.queue (message_of m.next_ticket ask) feedback after
      → Asks m ask feedback m.next_ticket (mail (m.next_ticket + 1) after (opened m.tickets m.next_ticket (kind_of ask)))
  asks m ask after feedback sent = record { drawn = refl; sends = sent; others = refl }
