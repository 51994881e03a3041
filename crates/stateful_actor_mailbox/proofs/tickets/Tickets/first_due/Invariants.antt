use Rattle.std.proofs.Common.{◌≡◌}
use Rattle.stateful_actor_mailbox.specs.Tickets.{due_among}
use Rattle.stateful_actor_mailbox.proofs.tickets.Tickets.first_due.Given as goal

-- none of the entries before is due
abbrev pub invariant-loop-number : goal.invariant-loop-number
invariant-loop-number g l = due_among l.self.stopped l.self.entries ≡ due_among l.self.stopped l.number-iterator
