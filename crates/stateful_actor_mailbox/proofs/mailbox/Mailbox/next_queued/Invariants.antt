use Rattle.std.proofs.Common.{◌≡◌, false, length}
use Rattle.stateful_types.specs.Mailbox.{messages, IsFilled}
use Rattle.stateful_actor_mailbox.proofs.Passing.{Passes}
use Rattle.stateful_actor_mailbox.proofs.mailbox.Mailbox.next_queued.Given as goal

-- what was taken out isn't to be handed out, and nothing else has changed
abbrev pub invariant-passing : goal.invariant-passing
invariant-passing g l = record {
  passes : Passes l.fn.self.tickets l.fn.self.queue l.self-inside.queue;
  still_open : l.self-inside.queue.closed ≡ false;
  filled : IsFilled l.self-inside.queue;
  number : l.self-inside.next_ticket ≡ l.fn.self.next_ticket;
  tickets : l.self-inside.tickets ≡ l.fn.self.tickets;
}

abbrev pub decreases-passing : goal.decreases-passing
decreases-passing g l = length (messages l.self-inside.queue)
