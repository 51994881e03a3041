use Rattle.stateful_p2p.specs.Handling.{handled, kept}
use Rattle.stateful_p2p.specs.declared.handler.EngineMessage.TheVariants.{Produce}
use Rattle.stateful_p2p.proofs.Sending.{sends}
use Rattle.stateful_p2p.proofs.Handing.{produces}
use Rattle.stateful_p2p.proofs.handler.Handler.produce.Goals as goal

pub returns-clause-produces : goal.returns-clause-produces
returns-clause-produces c =
    let s = c.self.inside in
    let e = c.enqueue.ensures in
    let sent = rw c.in_ok-feedback.was at (sends kept s.queue c.enqueue.new.self (Produce s.next_serve c.args.key) c.enqueue.result c.self.invariant e.closed e.room e.busy e.ready e.waits) in
    rw (← c.self.view_is) (produces (handled s.next_delivery s.next_serve s.queue) c.args.key c.enqueue.new.self c.in_ok-feedback.feedback sent)
