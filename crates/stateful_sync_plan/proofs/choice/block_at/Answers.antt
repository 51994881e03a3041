use Rattle.std.proofs.Common.{refl, sym, ◌∙◌}
use Rattle.stateful_sync_plan.specs.Choice.{there}
use Rattle.stateful_sync_plan.proofs.choice.block_at.Goals as goal

pub returns-in-Some : goal.returns-in-Some
returns-in-Some g c = there c.in-Some.block (sym c.in_ok-block.ensures ∙ c.in-Some.is) refl
