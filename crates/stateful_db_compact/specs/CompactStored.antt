-- A compact medium and database, as the layer above sees them.
use Rattle.std.specs.Prelude.{ℕ}
use Rattle.stateful_db.specs.Disk.{Disk, Standing}
use Rattle.stateful_db_medium.specs.Kept as kept
use Rattle.stateful_db.specs.Calls.{Calls}
use Rattle.stateful_db_compact.specs.Compacted.{State}
use Rattle.stateful_db_compact.specs.declared.compact.medium.CompactMedium.{CompactMedium}
use Rattle.stateful_db_compact.specs.declared.compact.database.CompactDb.{CompactDb}

module _ {V : Type 0} where
  abbrev pub disk_of : CompactMedium V → Disk (State V)
  disk_of m = kept.disk_of m.medium

  abbrev pub next_of : CompactMedium V → ℕ
  next_of m = kept.next_of m.medium

  abbrev pub calls_of : CompactMedium V → Calls
  calls_of m = kept.calls_of m.medium

  abbrev pub standing_of : CompactDb V → Standing (State V)
  standing_of d = kept.standing_of d.opened

  abbrev pub next_here : CompactDb V → ℕ
  next_here d = kept.next_of (kept.medium_of d.opened)

  abbrev pub calls_here : CompactDb V → Calls
  calls_here d = kept.calls_of (kept.medium_of d.opened)
