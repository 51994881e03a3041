use Rattle.std.proofs.Common.{refl}
use Rattle.std.proofs.lemmas.Result.{on_ok_weaker, IfErr-weaker}
use Rattle.stateful_exec_model.specs.Finalizing.{finalized_settles, finalized_refused}
use Rattle.stateful_exec_model.proofs.Fronts.{none_there}
use Rattle.stateful_exec_finals.proofs.finalizing.settle_run.Goals as goal

pub returns-in-Some-clause-ok : goal.returns-in-Some-clause-ok
returns-in-Some-clause-ok g c = on_ok_weaker c.settle_finalized.result (λ settles. finalized_settles (none_there _ _ c.contains.ensures c.if-contains.false) c.in-Some.ensures.live settles refl) c.settle_finalized.ensures.ok

pub returns-in-Some-clause-fault : goal.returns-in-Some-clause-fault
returns-in-Some-clause-fault g c = IfErr-weaker c.settle_finalized.result _ _ (λ e fault. finalized_refused c.in-Some.ensures.live fault) c.settle_finalized.ensures.fault
