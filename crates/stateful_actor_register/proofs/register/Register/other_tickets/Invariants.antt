use Rattle.std.proofs.Common.{◌≡◌, not, take, filter}
use Rattle.std.specs.Option.{is_some}
use Rattle.stateful_actor_register.specs.Live.{entry}
use Rattle.stateful_actor_register.proofs.register.Register.other_tickets.Given as goal

-- those of the tickets so far that don't ask to build
abbrev pub invariant-loop-ticket : goal.invariant-loop-ticket
invariant-loop-ticket l = l.others.items ≡ filter (λ t. not (is_some (entry l.self.proposals t))) (take l.ticket-index l.ticket-items)
