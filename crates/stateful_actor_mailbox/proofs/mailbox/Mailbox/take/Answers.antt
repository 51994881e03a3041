use Rattle.std.proofs.Common.{sym}
use Rattle.stateful_actor_mailbox.specs.Mail.{mail}
use Rattle.stateful_actor_mailbox.proofs.Books.{handed_below, told_below}
use Rattle.stateful_actor_mailbox.proofs.Taking.{cancel_taken, nothing_taken, event_taken}
use Rattle.stateful_actor_mailbox.proofs.mailbox.Mailbox.take.Goals as goal

pub invariant_of-self : goal.invariant_of-self
invariant_of-self g c = record {
  still_open = c.self.invariant.still_open;
  filled = c.self.invariant.filled;
  tickets = rw c.take_due.ensures.told (told_below _ _ c.self.invariant.tickets);
}

pub returns-in-Some : goal.returns-in-Some
returns-in-Some g c =
    let s = c.self.inside in
    rw (← c.self.view_is) (cancel_taken (mail s.next_ticket s.queue s.tickets) c.take_due.new.self c.in-Some.ticket (sym c.in-Some.ensures.least) c.take_due.ensures.told)

pub returns-in_err-message : goal.returns-in_err-message
returns-in_err-message g c =
    let s = c.self.inside in
    rw (← c.self.view_is, c.from_residual.ensures)
    (nothing_taken (mail s.next_ticket s.queue s.tickets) c.take_due.new.self c.next_queued.new.self (sym c.in_default.ensures.least) c.take_due.ensures.told c.in_err-message.ensures)

pub invariant_of-self-3 : goal.invariant_of-self-3
invariant_of-self-3 g c = record {
  still_open = c.self-2.invariant.still_open;
  filled = c.self-2.invariant.filled;
  tickets = rw c.hand_out.ensures (handed_below _ _ c.in_ok-message.message.ticket c.self-2.invariant.tickets);
}

pub returns : goal.returns
returns g c =
    let s = c.self.inside in
    let n = c.self-2.inside in
    rw (← c.self.view_is, c.into_event.ensures)
    (event_taken (mail s.next_ticket s.queue s.tickets) c.take_due.new.self (mail n.next_ticket n.queue n.tickets) c.hand_out.new.self c.in_ok-message.message
    (sym c.in_default.ensures.least) c.take_due.ensures.told (rw c.self-2.view_is c.in_ok-message.ensures) c.hand_out.ensures)
