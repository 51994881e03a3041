-- Where marshal starts.
use Rattle.std.specs.Prelude.{◌≡◌, Option, Some, None}
use Rattle.stateful_base.specs.declared.finalization.Finalization.{Finalization}
use Rattle.stateful_sync_plan.specs.declared.plan.Start.{Start}
use Rattle.stateful_sync_plan.specs.declared.plan.Start.TheVariants.{Floor, Genesis}

-- at the floor, if there is one, and else at genesis
abbrev pub Starts : {S K C B : Type 0} → Option (Finalization C) → B → Start S B K C → Type 0
Starts (Some floor) genesis (Floor at) = at.now ≡ floor
Starts None genesis (Genesis at) = at ≡ genesis
Starts floor genesis start = ⊥
