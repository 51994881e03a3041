use Rattle.stateful_sync.specs.Mailbox.{goes_on, ends, once_answered}
use Rattle.stateful_sync.proofs.Mailing.{changes_at}
use Rattle.stateful_sync.proofs.mailbox.Mailbox.respond.Goals as goal

pub returns-in-Some-clause-responds : goal.returns-in-Some-clause-responds
returns-in-Some-clause-responds g c = rw (← c.self.view_is, c.in-Some.is, c.unwrap_or.ensures) ends

pub returns-in-None-clause-responds : goal.returns-in-None-clause-responds
returns-in-None-clause-responds g c =
    rw (← c.self.view_is, c.in-None.is)
    (goes_on (changes_at _ c.args.number once_answered c.index.result.now c.once_answered.result (rw (← c.self.view_is) at c.requires) (rw c.index.ensures at c.once_answered.ensures)))
