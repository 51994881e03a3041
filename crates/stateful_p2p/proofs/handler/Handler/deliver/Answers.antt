use Rattle.stateful_p2p.specs.Handling.{handled, kept}
use Rattle.stateful_p2p.specs.declared.handler.EngineMessage.TheVariants.{Deliver}
use Rattle.stateful_p2p.proofs.Sending.{sends}
use Rattle.stateful_p2p.proofs.Handing.{delivers}
use Rattle.stateful_p2p.proofs.handler.Handler.deliver.Goals as goal

pub returns-clause-delivers : goal.returns-clause-delivers
returns-clause-delivers c =
    let s = c.self.inside in
    let e = c.enqueue.ensures in
    let sent = rw c.in_ok-feedback.was at (sends kept s.queue c.enqueue.new.self (Deliver s.next_delivery c.args.key c.args.value) c.enqueue.result c.self.invariant e.closed e.room e.busy e.ready e.waits) in
    rw (← c.self.view_is) (delivers (handled s.next_delivery s.next_serve s.queue) c.args.key c.args.value c.enqueue.new.self c.in_ok-feedback.feedback sent)
