-- What is taken out of a mailbox.
use Rattle.std.proofs.Common.{◌≡◌, ℕ, Option, Some, None, ap, subst, ◌∙◌, refl}
use Rattle.stateful_history.specs.declared.event.Event.TheVariants.{Cancel}
use Rattle.stateful_actor_mailbox.specs.Messages.{event_of}
use Rattle.stateful_actor_mailbox.specs.Tickets.{Book, handed_out, first_due, told_of, told_due}
use Rattle.stateful_actor_mailbox.specs.Mail.{Mail, mail, HandsOut, Takes}
use Rattle.stateful_actor_mailbox.specs.Mail as mailbox
use Rattle.stateful_actor_mailbox.specs.declared.message.Message.{Message}

module _ {B C I : Type 0} (m : Mail B C I) (k : Book B) where
  pub cancel_taken : (t : ℕ) → first_due m.tickets ≡ Some t → k ≡ told_due m.tickets → Takes m (Some (Cancel t)) (record m { tickets = k })
  cancel_taken t due told = rw told (mailbox.cancel due)

  none_told : first_due m.tickets ≡ None → k ≡ told_due m.tickets → k ≡ m.tickets
  none_told none told = told ∙ ap (told_of m.tickets) none

  pub nothing_taken : (next : Mail B C I) → first_due m.tickets ≡ None → k ≡ told_due m.tickets → HandsOut (record m { tickets = k }) None next → Takes m None next
  nothing_taken next none told hands =
      mailbox.nothing none (subst (λ (b : Book B). HandsOut (record m { tickets = b }) None next) (none_told none told) hands)

  hands_tickets : {found : Option (Message B C I)} {next : Mail B C I} → HandsOut m found next → next.tickets ≡ m.tickets
  hands_tickets (mailbox.nothing all empty shape) = refl
  hands_tickets (mailbox.message passed front all waits shape) = refl

  pub event_taken : (next : Mail B C I) (after : Book B) (first : Message B C I) → first_due m.tickets ≡ None → k ≡ told_due m.tickets
      → HandsOut (record m { tickets = k }) (Some first) next → after ≡ handed_out next.tickets first.ticket
      → Takes m (Some (event_of first)) (record next { tickets = after })
  event_taken next after first none told hands handed =
      let same : HandsOut m (Some first) next = subst (λ (b : Book B). HandsOut (record m { tickets = b }) (Some first) next) (none_told none told) hands in
      rw (handed, hands_tickets same) (mailbox.event none same)
