use Rattle.std.proofs.Common.{sym, ap, ◌∙◌}
use Rattle.std.specs.Option.{option_copied}
use Rattle.stateful_p2p_tables.proofs.Subscribers.{none_listed, all_listed}
use Rattle.stateful_p2p_tables.proofs.subscriptions.Subscriptions.of.Goals as goal

-- src/subscriptions.rt:63:23
pub returns-in_err-tickets : goal.returns-in_err-tickets
returns-in_err-tickets c =
    let none = sym c.of.ensures ∙ ap (λ r. option_copied r) c.in_err-tickets.was in
    rw (c.from_residual.ensures, sym c.self.view_is) (none_listed _ c.requests_are_ordered.ensures c.self.inside.keys c.self.inside.index.tickets c.args.key.now c.self.invariant none)

-- src/subscriptions.rt:59:5
pub returns : goal.returns
returns c =
    let some = sym c.of.ensures ∙ ap (λ r. option_copied r) c.in_ok-tickets.was in
    rw (sym c.self.view_is) (all_listed _ c.requests_are_ordered.ensures c.self.inside.keys c.self.inside.index.tickets c.args.key.now c.in_ok-tickets.tickets.now c.self.invariant some c.len.ensures.ordered)
