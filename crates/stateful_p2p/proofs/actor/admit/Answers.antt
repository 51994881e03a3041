use Rattle.stateful_p2p.specs.Tasks.{hear, deliver, judge, leave, produce}
use Rattle.stateful_p2p.proofs.actor.admit.Goals as goal

pub returns-in_ok-take-in-Message-clause-admits : goal.returns-in_ok-take-in-Message-clause-admits
returns-in_ok-take-in-Message-clause-admits g c = rw c.in-Message.is (hear (rw c.in_ok-take-in-Message.was at c.take.ensures.handed) c.take.ensures.others)

pub returns-in-Deliver-clause-admits : goal.returns-in-Deliver-clause-admits
returns-in-Deliver-clause-admits g c = rw c.in-Deliver.is deliver

pub returns-in-Judge-clause-admits : goal.returns-in-Judge-clause-admits
returns-in-Judge-clause-admits g c = rw c.in-Judge.is judge

pub returns-in-Leave-clause-admits : goal.returns-in-Leave-clause-admits
returns-in-Leave-clause-admits g c = rw c.in-Leave.is leave

pub returns-in-Produce-clause-admits : goal.returns-in-Produce-clause-admits
returns-in-Produce-clause-admits g c = rw c.in-Produce.is produce
