use Rattle.stateful_sync.specs.Mailbox.{records, drops, once_recorded}
use Rattle.stateful_sync.proofs.Mailing.{changes_at}
use Rattle.stateful_sync.proofs.mailbox.Mailbox.observed.Goals as goal

pub returns-then-recorded-clause-observes : goal.returns-then-recorded-clause-observes
returns-then-recorded-clause-observes g c =
    rw (← c.self.view_is, c.if-recorded.true)
    (records (changes_at _ c.args.number once_recorded c.index.result.now c.once_recorded.result (rw (← c.self.view_is) at c.requires) (rw c.index.ensures at c.once_recorded.ensures)))

pub returns-else-recorded-clause-observes : goal.returns-else-recorded-clause-observes
returns-else-recorded-clause-observes g c = rw (← c.self.view_is, c.if-recorded.false, c.max-newest.ensures, c.unwrap_or.ensures) drops
