-- What a prune of a log leaves.
use Rattle.std.specs.Prelude.{◌≡◌, ◌≢◌, ◌≤◌, ℕ}
use Rattle.stateful_base.specs.Causes.{Rose}
use Rattle.stateful_base.specs.declared.digest.Digest.{Digest}
use Rattle.stateful_db.specs.Calls.{Called}
use Rattle.stateful_db.specs.Disk.{cut}
use Rattle.stateful_db.specs.declared.database.Broken.{Broken}
use Rattle.stateful_db.specs.declared.database.DbCall.TheVariants.{Prune}
use Rattle.stateful_db.specs.declared.database.Why.TheVariants.{Failed, OutOfMemory}
use Rattle.stateful_db_log.specs.declared.log_medium.LogMedium.{LogMedium}
use Rattle.stateful_db_log.specs.declared.open_log.OpenLog.{OpenLog}
use Rattle.stateful_db_log.specs.Held.{from}
use Rattle.stateful_db_log.specs.Logs.{begin_of, disk_of, next_of, calls_of, held_of}
use Rattle.stateful_db_log.specs.Logs.{standing_of, next_here, calls_here, held_here}

module _ {Op : Type 0} where
  -- so many of the oldest checkpoints are dropped, and with them the operations below where the
  -- oldest that is left begins
  pub record Pruned (link : ℕ → Digest → Op → Digest) (n : ℕ) (before after : OpenLog Op)
      : Type 0 where
    pub standing : standing_of after
        ≡ record (standing_of before) { disk = cut (standing_of before).disk n }
    pub next : next_here after ≡ next_here before
    pub count : (calls_here before).faults ≤ (calls_here after).faults
    pub called : Called Prune (calls_here before) (calls_here after)
    pub first : (held_here before).first ≤ (held_here after).first
    pub held : held_here after
        ≡ from link (held_here before) (begin_of (standing_of after).disk)

  -- the prune failed: all that is kept stays, and a fault is counted where the call itself failed
  pub record Unpruned (before : OpenLog Op) (after : Broken (LogMedium Op)) : Type 0 where
    pub disk : disk_of after.medium ≡ (standing_of before).disk
    pub next : next_of after.medium ≡ next_here before
    pub count : (calls_here before).faults ≤ (calls_of after.medium).faults
    pub called : Called Prune (calls_here before) (calls_of after.medium)
    pub held : held_of after.medium ≡ held_here before
    pub failed : after.why ≡ Failed
        → Rose (calls_here before).faults (calls_of after.medium).faults
    pub memory : after.why ≢ OutOfMemory
