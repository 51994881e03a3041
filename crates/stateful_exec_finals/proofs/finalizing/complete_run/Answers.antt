use Rattle.std.proofs.Common.{refl}
use Rattle.std.proofs.lemmas.Result.{on_ok_weaker, IfErr-weaker}
use Rattle.stateful_exec_model.specs.Finalizing.{finalized, of_candidate, of_finalized}
use Rattle.stateful_exec_model.proofs.Fronts.{none_there}
use Rattle.stateful_exec_finals.proofs.finalizing.complete_run.Goals as goal

pub returns-then-contains-clause-fault : goal.returns-then-contains-clause-fault
returns-then-contains-clause-fault g c = IfErr-weaker c.complete.result _ _ (λ e fault. of_candidate fault) c.complete.ensures.fault

pub returns-else-contains-clause-ok : goal.returns-else-contains-clause-ok
returns-else-contains-clause-ok g c = on_ok_weaker c.complete_finalized.result (λ steps. finalized (none_there _ _ c.contains.ensures c.if-contains.false) steps refl) c.complete_finalized.ensures.ok

pub returns-else-contains-clause-fault : goal.returns-else-contains-clause-fault
returns-else-contains-clause-fault g c = IfErr-weaker c.complete_finalized.result _ _ (λ e fault. of_finalized (none_there _ _ c.contains.ensures c.if-contains.false) fault) c.complete_finalized.ensures.fault
