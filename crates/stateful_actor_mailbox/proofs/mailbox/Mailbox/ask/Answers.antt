use Rattle.std.proofs.Common.{ap, ◌∙◌}
use Rattle.stateful_actor_mailbox.specs.Mail.{mail, message_of}
use Rattle.stateful_actor_mailbox.proofs.Books.{opened_below, withdrawn}
use Rattle.stateful_actor_mailbox.proofs.Sending.{sends, sent_open}
use Rattle.stateful_actor_mailbox.proofs.Asking.{asks}
use Rattle.stateful_actor_mailbox.proofs.mailbox.Mailbox.ask.Goals as goal

pub invariant_of-self-in-Ok : goal.invariant_of-self-in-Ok
invariant_of-self-in-Ok g c =
    let s = c.self.inside in
    let e = c.enqueue.ensures in
    let sent = rw c.in-Ok.is at (sends s.queue c.enqueue.new.self (message_of s.next_ticket c.args.ask) c.enqueue.result c.self.invariant.still_open e.closed e.room e.busy e.ready e.waits) in
    record {
      still_open = sent_open _ _ _ _ sent ∙ c.self.invariant.still_open;
      filled = e.filled;
      tickets = rw c.in_ok-open.ensures.ok (opened_below s.next_ticket s.tickets _ c.self.invariant.tickets);
    }

pub invariant_of-self-in-Err : goal.invariant_of-self-in-Err
invariant_of-self-in-Err g c =
    let s = c.self.inside in
    record {
      still_open = ap (λ q. q.closed) c.in-Err.ensures.err ∙ c.self.invariant.still_open;
      filled = c.enqueue.ensures.filled;
      tickets = rw (c.remove.ensures, c.in_ok-open.ensures.ok, withdrawn s.next_ticket s.tickets c.kind.result c.self.invariant.tickets) c.self.invariant.tickets;
    }

pub returns-in-Ok-clause-asks : goal.returns-in-Ok-clause-asks
returns-in-Ok-clause-asks g c =
    let s = c.self.inside in
    let e = c.enqueue.ensures in
    let sent = rw c.in-Ok.is at (sends s.queue c.enqueue.new.self (message_of s.next_ticket c.args.ask) c.enqueue.result c.self.invariant.still_open e.closed e.room e.busy e.ready e.waits) in
    rw (← c.self.view_is, c.in_ok-open.ensures.ok, c.kind.ensures) (asks (mail s.next_ticket s.queue s.tickets) c.args.ask c.enqueue.new.self c.in-Ok.feedback sent)

pub returns-in-Err-clause-err : goal.returns-in-Err-clause-err
returns-in-Err-clause-err g c =
    let s = c.self.inside in
    rw (c.remove.ensures, c.in_ok-open.ensures.ok, withdrawn s.next_ticket s.tickets c.kind.result c.self.invariant.tickets, c.in-Err.ensures.err) c.self.view_is
