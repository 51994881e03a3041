-- Logs, and where they are kept.
use Rattle.std.specs.Prelude.{ℕ, ◌-◌, List, [], ◌∷◌, ◌++◌, drop, min}
use Rattle.stateful_base.specs.declared.target.Target.{Target}
use Rattle.stateful_db.specs.Disk.{Disk, Standing}
use Rattle.stateful_db_medium.specs.declared.checkpoints.Checkpoint.{Checkpoint}
use Rattle.stateful_db.specs.Calls.{Calls}
use Rattle.stateful_db_medium.specs.Kept as kept
use Rattle.stateful_db_medium.specs.Mapped.{mapped, mapped_standing}
use Rattle.stateful_db_log.specs.declared.log_medium.LogMedium.{LogMedium}
use Rattle.stateful_db_log.specs.declared.open_log.OpenLog.{OpenLog}
use Rattle.stateful_db_log.specs.Between.{state_in}
use Rattle.stateful_db_log.specs.Held.{Held}

module _ {Op : Type 0} where
  -- a log with more operations, and then from another floor on
  abbrev pub extended : Checkpoint (List Op) → List Op → Target → Checkpoint (List Op)
  extended s more t =
      record { target = t; kept = drop (t.start.0 - s.target.start.0) (s.kept ++ more) }

  -- the checkpoints of a medium, each with its operations
  abbrev pub disk_of : LogMedium Op → Disk (Checkpoint (List Op))
  disk_of m = mapped (state_in m.first m.ops) (kept.disk_of m.medium)

  abbrev pub next_of : LogMedium Op → ℕ
  next_of m = kept.next_of m.medium

  abbrev pub calls_of : LogMedium Op → Calls
  calls_of m = kept.calls_of m.medium

  abbrev pub standing_of : OpenLog Op → Standing (Checkpoint (List Op))
  standing_of o = mapped_standing (state_in o.first o.ops) (kept.standing_of o.opened)

  abbrev pub next_here : OpenLog Op → ℕ
  next_here o = kept.next_of (kept.medium_of o.opened)

  abbrev pub calls_here : OpenLog Op → Calls
  calls_here o = kept.calls_of (kept.medium_of o.opened)

  -- the operations that a medium holds
  abbrev pub held_of : LogMedium Op → Held Op
  held_of m = record { first = m.first; before = m.before; ops = m.ops }

  -- those that an open log holds
  abbrev pub held_here : OpenLog Op → Held Op
  held_here o = record { first = o.first; before = o.before; ops = o.ops }

-- the oldest kept checkpoint
abbrev pub oldest_of : {S : Type 0} → List S → S → S
oldest_of [] newest = newest
oldest_of (s ∷ older) newest = s

-- where the oldest kept checkpoint starts, or where it ends if that is before
abbrev pub begin_of : {X : Type 0} → Disk (Checkpoint X) → ℕ
begin_of d = let s = oldest_of d.older d.newest in min s.target.start.0 s.target.end.0
