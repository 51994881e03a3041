use Rattle.std.proofs.lemmas.Result.{IfErr-weaker}
use Rattle.stateful_exec_model.specs.Causes.FaultsStep.{turned}
use Rattle.stateful_exec_runs.proofs.ending.complete.Goals as goal

pub returns-clause-fault : goal.returns-clause-fault
returns-clause-fault g c = IfErr-weaker c.settle.result _ _ (λ e faults. turned c.in_ok-answer.ensures.ok faults) c.settle.ensures.fault
