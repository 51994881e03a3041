use Rattle.std.proofs.lemmas.Result.{on_ok_weaker, IfErr-weaker}
use Rattle.stateful_exec_model.specs.Finalizing.{hook_turned, hook_failed}
use Rattle.stateful_exec_finals.proofs.anchoring.turn_hook.Goals as goal

pub returns-clause-ok : goal.returns-clause-ok
returns-clause-ok g c = on_ok_weaker c.settle_hook.result (λ settles. hook_turned c.in-Some.ensures.live (record { goes_on = c.turn_hook-answer.ensures.ok; costs = c.turn_hook-answer.ensures.cost; failed = c.turn_hook-answer.ensures.failed }) settles) c.settle_hook.ensures.ok

pub returns-clause-fault : goal.returns-clause-fault
returns-clause-fault g c = IfErr-weaker c.settle_hook.result _ _ (λ e fault. hook_failed c.in-Some.ensures.live (record { goes_on = c.turn_hook-answer.ensures.ok; costs = c.turn_hook-answer.ensures.cost; failed = c.turn_hook-answer.ensures.failed }) fault) c.settle_hook.ensures.fault
