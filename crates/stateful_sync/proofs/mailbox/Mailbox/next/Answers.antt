use Rattle.std.proofs.Common.{refl, sym}
use Rattle.std.proofs.lemmas.Option.{slice_get_read}
use Rattle.stateful_sync.specs.Mailbox.{nothing, newest}
use Rattle.stateful_sync.proofs.mailbox.Mailbox.next.Goals as goal

pub returns-in_err-number-clause-handed : goal.returns-in_err-number-clause-handed
returns-in_err-number-clause-handed g c =
    rw (← c.self.view_is, c.from_residual.ensures, c.in_err-number.ensures.after, c.in_err-number.ensures.value) (nothing (sym c.in_err-number.ensures.value))

pub returns-clause-handed : goal.returns-clause-handed
returns-clause-handed g c =
    let waits = sym c.in_ok-number.ensures.value in
    let at = slice_get_read c.self.inside.updates.items _ c.in_ok-number.number c.index.result.now refl (c.self.invariant c.in_ok-number.number waits) c.index.ensures in
    rw (← c.self.view_is, c.in_ok-number.ensures.after) (newest waits at)
