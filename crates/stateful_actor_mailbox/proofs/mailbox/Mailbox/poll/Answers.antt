use Rattle.stateful_actor_mailbox.proofs.Books.{taken_below}
use Rattle.stateful_actor_mailbox.proofs.mailbox.Mailbox.poll.Goals as goal

pub invariant_of-self : goal.invariant_of-self
invariant_of-self g c = record {
  still_open = c.self.invariant.still_open;
  filled = c.self.invariant.filled;
  tickets = rw c.take_outcome.ensures.taken (taken_below _ _ c.args.ticket c.self.invariant.tickets);
}
