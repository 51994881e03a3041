-- A medium and a database of keys, as the layer above sees them.
use Rattle.std.specs.Prelude.{ℕ}
use Rattle.stateful_db.specs.Disk.{Disk, Standing}
use Rattle.stateful_db_log.specs.Held.{Held}
use Rattle.stateful_db_log.specs.Logs as logs
use Rattle.stateful_db.specs.Calls.{Calls}
use Rattle.stateful_db_any.specs.Any.{State}
use Rattle.stateful_db_any.specs.declared.op.AnyOp.{AnyOp}
use Rattle.stateful_db_any.specs.declared.medium.AnyMedium.{AnyMedium}
use Rattle.std.specs.declared.cmp.Ord as ord
use Rattle.std.specs.declared.cmp.PartialEq as eq
use Rattle.std.specs.declared.cmp.PartialOrd as partial
use Rattle.stateful_db_any.specs.declared.database.AnyDb.{AnyDb}

module _ {K V : Type 0} where
  abbrev pub disk_of : AnyMedium K V → Disk (State K V)
  disk_of m = logs.disk_of m.medium

  abbrev pub next_of : AnyMedium K V → ℕ
  next_of m = logs.next_of m.medium

  abbrev pub calls_of : AnyMedium K V → Calls
  calls_of m = logs.calls_of m.medium

  -- the operations that a medium holds
  abbrev pub held_of : AnyMedium K V → Held (AnyOp K V)
  held_of m = logs.held_of m.medium

-- of keys with an order
module _ {K V : Type 0} {o : ord.Ghosts K} {e : eq.Ghosts K} {p : partial.Ghosts K} where
  abbrev pub standing_of : AnyDb K V o e p → Standing (State K V)
  standing_of d = logs.standing_of d.log

  abbrev pub next_here : AnyDb K V o e p → ℕ
  next_here d = logs.next_here d.log

  abbrev pub calls_here : AnyDb K V o e p → Calls
  calls_here d = logs.calls_here d.log

  -- those that a database holds
  abbrev pub held_here : AnyDb K V o e p → Held (AnyOp K V)
  held_here d = logs.held_here d.log
