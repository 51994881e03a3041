-- Which error a lower one becomes.
use Rattle.std.specs.Prelude.{ℕ}
use Rattle.stateful_base.specs.declared.codec.CodecError.{CodecError}
use Rattle.stateful_base.specs.declared.codec.CodecError.TheVariants as codec
use Rattle.stateful_db.specs.declared.database.InitError.{InitError}
use Rattle.stateful_db.specs.declared.database.InitError.TheVariants as init
use Rattle.stateful_sync_plan.specs.declared.store.StoreFault.{StoreFault}
use Rattle.stateful_sync_plan.specs.declared.store.StoreFault.TheVariants as store
use Rattle.stateful_sync_plan.specs.declared.error.PlanError.{PlanError}
use Rattle.stateful_sync_plan.specs.declared.error.PlanError.TheVariants as plan
use Rattle.stateful_sync_plan.specs.declared.error.SyncError.{SyncError}
use Rattle.stateful_sync_plan.specs.declared.error.SyncError.TheVariants as sync

abbrev pub of_codec : CodecError → PlanError
of_codec (codec.InvalidEnum byte) = plan.InvalidEnum byte
of_codec codec.EndOfBuffer = plan.EndOfBuffer
of_codec codec.OutOfMemory = plan.OutOfMemory

abbrev pub of_store : StoreFault → PlanError
of_store store.Failed = plan.PlanStore
of_store store.OutOfMemory = plan.OutOfMemory

-- of a database of this number that didn't open
abbrev pub of_opening : ℕ → InitError → SyncError
of_opening index init.Database = sync.Database index
of_opening index (init.TargetMismatch expected recovered) =
    sync.TargetMismatch index expected recovered
of_opening index init.OutOfMemory = sync.OutOfMemory
