use Rattle.std.proofs.Common.{sym, subst}
use Rattle.stateful_actor_mailbox.specs.Tickets.{Book, empty_book}
use Rattle.stateful_actor_mailbox.specs.Mail.{mail}
use Rattle.stateful_actor_mailbox.specs.Laws.{KeepsLaws}
use Rattle.stateful_actor_mailbox.proofs.Laws.{KeepsLaws-new}
use Rattle.stateful_actor_mailbox.proofs.mailbox.Mailbox.new.Goals as goal

pub returns-clause-laws : goal.returns-clause-laws
returns-clause-laws g c =
    subst (λ (k : Book g.row.B.Denot). KeepsLaws (mail 0 c.in_ok-new.field-0 k)) (sym c.new-2.ensures)
    (subst (λ queue. KeepsLaws (mail 0 queue empty_book)) (sym c.in_ok-new.ensures.empty) (KeepsLaws-new c.args.capacity))
