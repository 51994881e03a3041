-- A keyless medium and database, as the layer above sees them.
use Rattle.std.specs.Prelude.{ℕ, List}
use Rattle.stateful_db.specs.Disk.{Disk, Standing}
use Rattle.stateful_db_log.specs.Held.{Held}
use Rattle.stateful_db_log.specs.Logs as logs
use Rattle.stateful_db.specs.Calls.{Calls}
use Rattle.stateful_db_compact.specs.declared.op.KeylessOp.{KeylessOp}
use Rattle.stateful_db_keyless.specs.Keyless.{State}
use Rattle.stateful_db_keyless.specs.declared.keyless.medium.KeylessMedium.{KeylessMedium}
use Rattle.stateful_db_keyless.specs.declared.keyless.database.KeylessDb.{KeylessDb}
use Rattle.stateful_db_keyless.specs.declared.keyless.batch.KeylessMerkleized.{KeylessMerkleized}

module _ {V : Type 0} where
  abbrev pub disk_of : KeylessMedium V → Disk (State V)
  disk_of m = logs.disk_of m.medium

  abbrev pub next_of : KeylessMedium V → ℕ
  next_of m = logs.next_of m.medium

  abbrev pub calls_of : KeylessMedium V → Calls
  calls_of m = logs.calls_of m.medium

  abbrev pub standing_of : KeylessDb V → Standing (State V)
  standing_of d = logs.standing_of d.log

  abbrev pub next_here : KeylessDb V → ℕ
  next_here d = logs.next_here d.log

  abbrev pub calls_here : KeylessDb V → Calls
  calls_here d = logs.calls_here d.log

  -- the operations that a medium holds
  abbrev pub held_of : KeylessMedium V → Held (KeylessOp V)
  held_of m = logs.held_of m.medium

  -- those that a database holds
  abbrev pub held_here : KeylessDb V → Held (KeylessOp V)
  held_here d = logs.held_here d.log

  -- those that a sealed batch has
  abbrev pub sealed_ops : KeylessMerkleized V → List (KeylessOp V)
  sealed_ops m = m.layer.1.ops.items
