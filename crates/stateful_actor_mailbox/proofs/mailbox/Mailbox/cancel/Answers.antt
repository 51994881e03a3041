use Rattle.std.proofs.Common.{ap, ◌∙◌}
use Rattle.stateful_actor_mailbox.proofs.Books.{cancelled_below}
use Rattle.stateful_actor_mailbox.proofs.mailbox.Mailbox.cancel.Goals as goal

pub invariant_of-self : goal.invariant_of-self
invariant_of-self g c = record {
  still_open = ap (λ q. q.closed) c.retain_waiting.ensures.dropped.others ∙ c.self.invariant.still_open;
  filled = c.retain_waiting.ensures.filled;
  tickets = rw c.cancel.ensures.tickets (cancelled_below _ _ c.args.ticket c.self.invariant.tickets);
}

pub invariant_of-self-else-cancel : goal.invariant_of-self-else-cancel
invariant_of-self-else-cancel g c = record {
  still_open = c.self.invariant.still_open;
  filled = c.self.invariant.filled;
  tickets = rw c.cancel.ensures.tickets (cancelled_below _ _ c.args.ticket c.self.invariant.tickets);
}
