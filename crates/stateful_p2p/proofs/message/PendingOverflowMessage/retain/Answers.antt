use Rattle.std.proofs.Common.{rules}
use Rattle.std.proofs.lemmas.Fn.{filter_same}
use Rattle.stateful_p2p.proofs.Waiting.{retained}
use Rattle.stateful_p2p.proofs.message.PendingOverflowMessage.retain.Goals as goal

pub returns : goal.returns
returns g c =
    retained (g.P.Predicate.holds c.args.live.now) c.args.self.now.database c.kept.result c.args.self.now.requests.items c.retain.new.self.items
    (rw (← c.take-database.ensures.value) c.kept.ensures)
    (filter_same _ _ _ (λ x b f' k. search rules) _ _ c.retain.ensures.filtered)
