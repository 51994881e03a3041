use Rattle.std.proofs.Common.{◌∷◌, ap, sym}
use Rattle.stateful_p2p.specs.declared.message.Message.TheVariants.{AttachDatabase}
use Rattle.stateful_p2p.proofs.Waiting.{only_requests}
use Rattle.stateful_p2p.proofs.message.MessagePolicy.handle.Goals as goal

pub returns-in-AttachDatabase-clause-ok : goal.returns-in-AttachDatabase-clause-ok
returns-in-AttachDatabase-clause-ok g c =
    rw c.in-AttachDatabase.is (ap (λ w. AttachDatabase c.in-AttachDatabase.database ∷ w) (sym (only_requests c.args.overflow.now.database c.args.overflow.now.requests.items)))
