-- The checkpoints of keyless media are in order.
use Rattle.std.specs.Prelude.{◌<◌}
use Rattle.stateful_db.specs.Disk.{IsSound}
use Rattle.stateful_db_log.specs.LogSound as logs
use Rattle.stateful_db_keyless.specs.declared.keyless.medium.KeylessMedium.{KeylessMedium}
use Rattle.stateful_db_keyless.specs.declared.keyless.database.KeylessDb.{KeylessDb}
use Rattle.stateful_db_keyless.specs.Keyless.{target_of}
use Rattle.stateful_db_keyless.specs.KeylessStored.{disk_of, standing_of, next_of}

module _ {V : Type 0} where
  pub sound_medium : (m : KeylessMedium V) → IsSound target_of (disk_of m)
  sound_medium m = logs.sound_medium m.medium

  pub sound_database : (d : KeylessDb V) → IsSound target_of (standing_of d).disk
  sound_database d = logs.sound_log d.log

  pub numbered : (m : KeylessMedium V) → 0 < next_of m
  numbered m = logs.numbered m.medium
