-- The entries that are kept.
use Rattle.std.specs.Prelude.{◌<◌, ◌≤◌, List, [], ◌∷◌, ◌++◌, length}
use Rattle.stateful_pruning.specs.Rule.{Entry, Schedule, window}

-- the schedule, and the entries that are kept, the oldest first
pub record Recorded (T : Type 0) : Type 0 where
  pub schedule : Schedule
  pub kept : List (Entry T)

module _ {T : Type 0} where
  -- the offset is below the interval, the QMDB window has a block and isn't larger than the marshal
  -- window, and no more entries are kept than the marshal window has
  pub record IsSound (p : Recorded T) : Type 0 where
    pub offset : p.schedule.offset < p.schedule.interval
    pub qmdb : 1 ≤ p.schedule.qmdb_window
    pub marshal : p.schedule.qmdb_window ≤ p.schedule.marshal_window
    pub kept : length p.kept ≤ p.schedule.marshal_window

  -- with one more entry, and of all the last marshal window
  abbrev pub with_entry : Recorded T → Entry T → Recorded T
  with_entry p entry = record p { kept = window p.schedule.marshal_window (p.kept ++ entry ∷ []) }
