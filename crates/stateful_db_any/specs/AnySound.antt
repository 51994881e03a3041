-- The checkpoints of media of keys are in order.
use Rattle.std.specs.Prelude.{◌<◌}
use Rattle.stateful_db.specs.Disk.{IsSound}
use Rattle.stateful_db_log.specs.LogSound as logs
use Rattle.stateful_db_any.specs.declared.medium.AnyMedium.{AnyMedium}
use Rattle.std.specs.declared.cmp.Ord as ord
use Rattle.std.specs.declared.cmp.PartialEq as eq
use Rattle.std.specs.declared.cmp.PartialOrd as partial
use Rattle.stateful_db_any.specs.declared.database.AnyDb.{AnyDb}
use Rattle.stateful_db_any.specs.Any.{target_of}
use Rattle.stateful_db_any.specs.Stored.{disk_of, standing_of, next_of}

module _ {K V : Type 0} where
  pub sound_medium : (m : AnyMedium K V) → IsSound target_of (disk_of m)
  sound_medium m = logs.sound_medium m.medium

  pub numbered : (m : AnyMedium K V) → 0 < next_of m
  numbered m = logs.numbered m.medium

module _ {K V : Type 0} {o : ord.Ghosts K} {e : eq.Ghosts K} {p : partial.Ghosts K} where
  pub sound_database : (d : AnyDb K V o e p) → IsSound target_of (standing_of d).disk
  sound_database d = logs.sound_log d.log
