use Rattle.std.proofs.Common.{◌≡◌, ap, ◌∙◌, arith}
use Rattle.stateful_p2p.specs.Inbox.{inbox}
use Rattle.stateful_p2p.specs.declared.message.Message.TheVariants.{GetOperations}
use Rattle.stateful_p2p.specs.declared.tickets.Standing.TheVariants.{Open}
use Rattle.stateful_table.proofs.Tables.{restored}
use Rattle.stateful_p2p.proofs.Standing.{drawn_fresh}
use Rattle.stateful_p2p.specs.Messages.{kept}
use Rattle.stateful_p2p.proofs.Sending.{sends, sent_open}
use Rattle.stateful_p2p.proofs.Boxing.{asks}
use Rattle.stateful_p2p.proofs.mailbox.Mailbox.serve.Goals as goal

pub invariant_of-self-in-Ok : goal.invariant_of-self-in-Ok
invariant_of-self-in-Ok g c =
    let s = c.self.inside in
    let e = c.enqueue.ensures in
    let sent = rw c.in-Ok.is at (sends kept s.queue c.enqueue.new.self (GetOperations s.next_ticket c.args.request) c.enqueue.result c.self.invariant.still_open e.closed e.room e.busy e.ready e.waits) in
    record {
      still_open = sent_open _ _ _ _ sent ∙ c.self.invariant.still_open;
      filled = e.filled;
      fresh = rw c.in_ok-open.ensures.ok (drawn_fresh s.next_ticket s.tickets Open c.self.invariant.fresh);
      room =
          let count = c.in_ok-open.ensures.count in
          let most = c.len.ensures.most in
          let ok = c.in_ok-reserve.ensures.ok in
          omega arith;
    }

pub invariant_of-self-in-Err : goal.invariant_of-self-in-Err
invariant_of-self-in-Err g c =
    let s = c.self.inside in
    let back : c.remove.new.self ≡ c.self.inside.tickets = rw (c.remove.ensures, c.in_ok-open.ensures.ok) (restored s.tickets s.next_ticket Open (c.self.invariant.fresh s.next_ticket (omega arith))) in
    record {
      still_open = ap (λ q. q.closed) c.in-Err.ensures.err ∙ c.self.invariant.still_open;
      filled = c.enqueue.ensures.filled;
      fresh = rw back c.self.invariant.fresh;
      room = rw back (let room = c.self.invariant.room in let more = c.in_ok-reserve.ensures.capacity in rw c.in_ok-reserve.ensures.items (omega arith));
    }

pub returns-in-Ok-clause-asks : goal.returns-in-Ok-clause-asks
returns-in-Ok-clause-asks g c =
    let s = c.self.inside in
    let e = c.enqueue.ensures in
    let sent = rw c.in-Ok.is at (sends kept s.queue c.enqueue.new.self (GetOperations s.next_ticket c.args.request) c.enqueue.result c.self.invariant.still_open e.closed e.room e.busy e.ready e.waits) in
    rw (← c.self.view_is, c.in_ok-open.ensures.ok, c.in_ok-reserve.ensures.items)
    (asks (inbox s.next_ticket s.queue s.tickets s.candidates s.cancelled.items) c.args.request c.enqueue.new.self c.in-Ok.feedback sent)

pub returns-in-Err-clause-err : goal.returns-in-Err-clause-err
returns-in-Err-clause-err g c =
    let s = c.self.inside in
    let back : c.remove.new.self ≡ c.self.inside.tickets = rw (c.remove.ensures, c.in_ok-open.ensures.ok) (restored s.tickets s.next_ticket Open (c.self.invariant.fresh s.next_ticket (omega arith))) in
    rw (back, c.in-Err.ensures.err, c.in_ok-reserve.ensures.items) c.self.view_is
