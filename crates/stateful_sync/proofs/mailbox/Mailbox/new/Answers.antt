use Rattle.std.proofs.Common.{None, subst, sym}
use Rattle.stateful_sync.specs.MailboxLaws.{KeepsLaws}
use Rattle.stateful_sync.proofs.MailboxLaws.{KeepsLaws-new}
use Rattle.stateful_sync.proofs.mailbox.Mailbox.new.Goals as goal

pub returns-clause-laws : goal.returns-clause-laws
returns-clause-laws g c =
    subst (λ updates. KeepsLaws (record { updates = updates; waiting = None; artifact = None })) (sym c.new.ensures.items) KeepsLaws-new
