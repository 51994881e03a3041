-- A new resolver keeps the laws of resolvers.
use Rattle.stateful_p2p.proofs.Laws.{KeepsLaws-new}
use Rattle.stateful_p2p.proofs.actor.Actor.new.Goals as goal

pub returns-clause-laws : goal.returns-clause-laws
returns-clause-laws g c = KeepsLaws-new _ c.new-2.result c.in_ok-mailbox.mailbox c.args.config.mailbox_size c.new-2.ensures c.in_ok-mailbox.ensures
