use Rattle.stateful_actor_mailbox.proofs.Books.{ended_below}
use Rattle.stateful_actor_mailbox.proofs.mailbox.Mailbox.note.Goals as goal

pub invariant_of-self : goal.invariant_of-self
invariant_of-self g c = record {
  still_open = c.self.invariant.still_open;
  filled = c.self.invariant.filled;
  tickets = rw c.end.ensures (ended_below _ _ c.in-Ends.ticket c.in-Ends.answer c.self.invariant.tickets);
}
