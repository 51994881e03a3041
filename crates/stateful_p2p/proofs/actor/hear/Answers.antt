use Rattle.std.proofs.Common.{[], ◌∷◌, sym, ◌∙◌, append-nil}
use Rattle.stateful_p2p.specs.Resolving.{attaches, fetches, passes_over}
use Rattle.stateful_p2p_tables.specs.declared.out.ActorOut.TheVariants.{Fetch}
use Rattle.stateful_p2p.proofs.actor.hear.Goals as goal

pub returns-in-AttachDatabase-clause-hears : goal.returns-in-AttachDatabase-clause-hears
returns-in-AttachDatabase-clause-hears g c = ([], rw c.in-AttachDatabase.is attaches, sym (append-nil _))

pub returns-in_ok-push-in-GetOperations-clause-hears : goal.returns-in_ok-push-in-GetOperations-clause-hears
returns-in_ok-push-in-GetOperations-clause-hears g c = (
  Fetch c.in-GetOperations.ticket c.in-GetOperations.request ∷ [],
  rw (c.in-GetOperations.is, c.in_ok-insert-in-GetOperations.ensures) (fetches (sym c.is_live.ensures ∙ c.if-is_live.true)),
  c.in_ok-push-in-GetOperations.ensures.items,
)

pub returns-else-is_live-clause-hears : goal.returns-else-is_live-clause-hears
returns-else-is_live-clause-hears g c = ([], rw c.in-GetOperations.is (passes_over (sym c.is_live.ensures ∙ c.if-is_live.false)), sym (append-nil _))
