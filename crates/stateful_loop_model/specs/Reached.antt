-- How far a finalization has come, as far as it tells what goes on.
use Rattle.std.specs.Prelude.{Option, Some, None}
use Rattle.stateful_exec_model.specs.declared.front.Front.{Front}
use Rattle.stateful_exec_model.specs.declared.front.Stage.{Stage}
use Rattle.stateful_exec_model.specs.declared.front.Stage.TheVariants as stage
use Rattle.stateful_loop_model.specs.declared.reached.Reached.{Reached}
use Rattle.stateful_loop_model.specs.declared.reached.Reached.TheVariants.{Begun, Ran, Advanced}
use Rattle.stateful_loop_model.specs.declared.reached.Reached.TheVariants.{Waiting}

abbrev pub stage_of : {R U H : Type 0} → Stage R U H → Reached
stage_of stage.Begun = Begun
stage_of (stage.Running j run) = Waiting
stage_of (stage.Ran batch) = Ran
stage_of stage.Advanced = Advanced
stage_of (stage.Hooking j hook) = Waiting

abbrev pub reached_by : {B R U H : Type 0} → Option (Front B R U H) → Reached
reached_by None = Waiting
reached_by (Some front) = stage_of front.stage
