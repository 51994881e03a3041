use Rattle.std.proofs.Common.{sym, ◌∙◌}
use Rattle.stateful_sync_plan.proofs.Wholes.{left_over}
use Rattle.stateful_sync_plan.proofs.plan.read_whole.Goals as goal

pub returns-in_err-end_of : goal.returns-in_err-end_of
returns-in_err-end_of g c = left_over _ c.in_ok-state.state _ _ _ _ c.in_ok-state.ensures (sym c.end_of.ensures ∙ c.in_err-end_of.was) c.from_residual-in_err-end_of.ensures.1
