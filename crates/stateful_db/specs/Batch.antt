-- Why a batch refuses, by its calls.
use Rattle.stateful_db.specs.declared.batch.BatchError.{BatchError}
use Rattle.stateful_db.specs.declared.batch.BatchError.TheVariants.{StaleRead, Exhausted}
use Rattle.stateful_db.specs.declared.batch.BatchError.TheVariants.{OutOfMemory}

-- a seal is refused where the batch is stale, where no number is left, or for want of memory, and
-- for no other reason
abbrev pub RefusesSeal : BatchError → Type 0
RefusesSeal StaleRead = Unit {0}
RefusesSeal Exhausted = Unit {0}
RefusesSeal OutOfMemory = Unit {0}
RefusesSeal e = ⊥
