-- Answers that want of memory may take the place of.
use Rattle.std.specs.Prelude.{Result, Err}
use Rattle.stateful_sync_plan.specs.declared.error.SyncError.{SyncError}
use Rattle.stateful_sync_plan.specs.declared.error.SyncError.TheVariants.{OutOfMemory}

-- the fact holds unless memory ran out
abbrev pub UnlessMemory : {A : Type 0} → Result A SyncError → Type 0 → Type 0
UnlessMemory (Err OutOfMemory) P = Unit {0}
UnlessMemory result P = P
