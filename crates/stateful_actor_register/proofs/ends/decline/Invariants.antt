use Rattle.std.proofs.Common.{◌≡◌, ◌++◌, take}
use Rattle.stateful_actor_register.specs.Ends.{declined}
use Rattle.stateful_actor_register.proofs.ends.decline.Given as goal

abbrev pub invariant-loop-ticket : goal.invariant-loop-ticket
invariant-loop-ticket g l = l.marks.items ≡ l.fn.marks.items ++ declined (take l.ticket-index l.tickets)
