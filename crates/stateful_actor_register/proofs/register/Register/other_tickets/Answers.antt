use Rattle.std.proofs.Common.{◌≡◌, ℕ, not, take, filter, ap, ◌∙◌, arith}
use Rattle.std.specs.Option.{is_some}
use Rattle.std.proofs.lemmas.Grind.{common_steps}
use Rattle.std.proofs.lemmas.List.Elements.{filter_more}
use Rattle.stateful_actor_register.specs.Live.{entry}
use Rattle.stateful_actor_register.proofs.Listed.{IsListOf-filter}
use Rattle.stateful_actor_register.proofs.register.Register.other_tickets.Goals as goal
use Rattle.stateful_actor_register.proofs.register.Register.other_tickets.Goals.{then-not-contains+in_ok-push, else-not-contains}

pub loop-ticket-preserved : goal.loop-ticket-preserved
loop-ticket-preserved c =
    let builds_none = λ (t : ℕ). not (is_some (entry c.args.self.now.proposals t)) in
    let more = filter_more builds_none c.deref-ticket-items.result.now c.loop-ticket.ticket-index 0 c.loop-ticket-test.true in
    elim c.if-not-contains.branch [
      | then-not-contains+in_ok-push w ↦ grind (arith, common_steps, more, c.contains.ensures)
      | else-not-contains w ↦ grind (arith, common_steps, more, c.contains.ensures)
    ]

pub returns : goal.returns
returns c =
    let builds_none = λ (t : ℕ). not (is_some (entry c.args.self.now.proposals t)) in
    let whole : take c.loop-ticket.ticket-index c.deref-ticket-items.result.now ≡ c.deref-ticket-items.result.now = grind (arith, common_steps) in
    rw (c.loop-ticket.invariant ∙ ap (filter builds_none) (whole ∙ c.deref-ticket-items.ensures.value))
    (IsListOf-filter (λ t. is_some (entry c.args.self.now.tickets t)) builds_none c.in_ok-tickets.tickets.items c.in_ok-tickets.ensures)
