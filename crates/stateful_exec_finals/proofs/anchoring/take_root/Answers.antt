use Rattle.stateful_exec_model.specs.Finalizing.{ran}
use Rattle.stateful_exec_model.proofs.Fronts.{at_none}
use Rattle.stateful_exec_finals.proofs.anchoring.take_root.Goals as goal

pub returns-in-Some-take_ran-clause-root : goal.returns-in-Some-take_ran-clause-root
returns-in-Some-take_ran-clause-root g c = ran (at_none c.in_default.is c.in_ok-batch.ensures.none) c.in-Some-take_ran.ensures.some.1
