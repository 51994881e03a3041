-- What a pause is for, and which runs it waits for.
use Rattle.std.specs.Prelude.{Option, Some, None}
use Rattle.stateful_base.specs.Names.{Header, Named}
use Rattle.stateful_exec_pause.specs.Boundary.{Boundary, step_by, IsRetained}
use Rattle.stateful_exec_pause.specs.declared.pause.Pause.{Pause}
use Rattle.stateful_exec_pause.specs.declared.pause.Pause.TheVariants.{Free, Finalizing, Pruning}

-- what execution is paused for: a finalization, or a prune
abbrev pub pause_for : Option Boundary → Pause
pause_for None = Pruning
pause_for (Some boundary) = Finalizing boundary

-- The pause waits for the end of a run of the block: before a prune of each run, and before a
-- finalization of each that doesn't go on over it.
abbrev pub IsAwaited : {B : Type 0} → Header B → Pause → Named B → Type 0
IsAwaited header Free b = ⊥
IsAwaited header Pruning b = Unit {0}
IsAwaited header (Finalizing boundary) b = IsRetained boundary (step_by header b) → ⊥
