use Rattle.std.proofs.Common.{ap, ◌∙◌, not, filter, Bool, rules}
use Rattle.std.proofs.lemmas.Fn.{filter_same}
use Rattle.stateful_loop_model.proofs.queue.Queue.give_up.Goals as goal

pub returns : goal.returns
returns g c =
    let kept : g.row.T.Denot → Bool = λ item. not (g.T.Asks.asks item c.args.ticket) in
    filter_same _ kept _ (λ x b f' k. search rules) _ _ c.retain.ensures.filtered ∙ ap (filter kept) c.self.view_is
