-- Checkpoints, a medium and an open database, as the layer above sees them.
use Rattle.std.specs.Prelude.{ℕ}
use Rattle.stateful_db.specs.Disk.{Disk, Standing}
use Rattle.stateful_db_medium.specs.declared.checkpoints.Checkpoint.{Checkpoint}
use Rattle.stateful_db_medium.specs.declared.checkpoints.Checkpoints.{Checkpoints}
use Rattle.stateful_db_medium.specs.declared.medium.Medium.{Medium}
use Rattle.stateful_db_medium.specs.declared.opened.Opened.{Opened}
use Rattle.stateful_db.specs.Calls.{Calls}

module _ {X : Type 0} where
  -- checkpoints as a disk
  abbrev pub disk_in : Checkpoints X → Disk (Checkpoint X)
  disk_in c =
      record { older = c.older.items; newest = c.newest; pruned = c.pruned; durable = c.durable }

  -- the checkpoints of a medium
  abbrev pub disk_of : Medium X → Disk (Checkpoint X)
  disk_of m = disk_in m.checkpoints

  -- the next batch id
  abbrev pub next_of : Medium X → ℕ
  next_of m = m.next

  -- the calls on it
  abbrev pub calls_of : Medium X → Calls
  calls_of m = m.calls

  -- the medium of an open database
  abbrev pub medium_of : Opened X → Medium X
  medium_of o = o.medium

  -- the id of the last applied batch, the checkpoints, and the tokens that are out
  abbrev pub standing_of : Opened X → Standing (Checkpoint X)
  standing_of o = record { id = o.id; disk = disk_of o.medium; out = o.out }
