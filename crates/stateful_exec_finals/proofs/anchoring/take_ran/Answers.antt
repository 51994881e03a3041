use Rattle.std.proofs.Common.{sym, ◌∙◌}
use Rattle.stateful_exec_model.proofs.Fronts.{at_stage}
use Rattle.stateful_exec_finals.proofs.anchoring.take_ran.Goals as goal

pub returns-in-Ran-clause-some : goal.returns-in-Ran-clause-some
returns-in-Ran-clause-some g c = (c.in_ok-stage.field-0.block, at_stage c.in_ok-stage.field-0 _ (sym c.replace.ensures.value ∙ c.in_ok-stage.was) c.in-Ran.is)
