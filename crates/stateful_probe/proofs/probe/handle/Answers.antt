use Rattle.stateful_probe.specs.Probe.{leaves, attaches}
use Rattle.stateful_probe.proofs.probe.handle.Goals as goal
use Rattle.stateful_probe.proofs.probe.handle.Goals.{in-Subscribe+else-ticket+in_ok-subscribe-in-Subscribe, in-Cancel, in-Attach, in-Received+then-is_serving+in_ok-receive-in-Received, in-Received+else-is_serving+in_ok-receive-in-Received-2, in-Retry+in_ok-retry-in-Retry, in-Stop+in_ok-stop-in-Stop}

pub returns-clause-steps : goal.returns-clause-steps
returns-clause-steps g c = elim c.match-event.branch [
  | in-Subscribe+else-ticket+in_ok-subscribe-in-Subscribe w ↦ rw (w.in-Subscribe.is, w.state-is, w.outs-is) (w.in_ok-subscribe-in-Subscribe.ensures _)
  | in-Cancel w ↦ rw (w.in-Cancel.is, w.state-is, w.outs-is, w.remove.ensures, c.new-outs.ensures.items) leaves
  | in-Attach w ↦ rw (w.in-Attach.is, w.state-is, w.outs-is, c.new-outs.ensures.items) attaches
  | in-Received+then-is_serving+in_ok-receive-in-Received w ↦ rw (w.in-Received.is, w.state-is, w.outs-is) (w.in_ok-receive-in-Received.ensures _ _ (cc))
  | in-Received+else-is_serving+in_ok-receive-in-Received-2 w ↦ rw (w.in-Received.is, w.state-is, w.outs-is) (w.in_ok-receive-in-Received-2.ensures (cc) _)
  | in-Retry+in_ok-retry-in-Retry w ↦ rw (w.in-Retry.is, w.state-is, w.outs-is) (w.in_ok-retry-in-Retry.ensures _)
  | in-Stop+in_ok-stop-in-Stop w ↦ rw (w.in-Stop.is, w.state-is, w.outs-is) (w.in_ok-stop-in-Stop.ensures _ _)
]
