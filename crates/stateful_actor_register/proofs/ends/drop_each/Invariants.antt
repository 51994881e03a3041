use Rattle.std.proofs.Common.{◌≡◌, ◌++◌, take}
use Rattle.stateful_actor_register.specs.Ends.{dropped}
use Rattle.stateful_actor_register.proofs.ends.drop_each.Given as goal

abbrev pub invariant-loop-ticket : goal.invariant-loop-ticket
invariant-loop-ticket g l = l.marks.items ≡ l.fn.marks.items ++ dropped (take l.ticket-index l.tickets)
