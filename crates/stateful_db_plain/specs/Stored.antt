-- A medium and a database, as the layer above sees them.
use Rattle.std.specs.Prelude.{ℕ}
use Rattle.stateful_db.specs.Disk.{Disk, Standing}
use Rattle.stateful_db_medium.specs.Kept as kept
use Rattle.stateful_db_medium.specs.Mapped.{mapped, mapped_standing}
use Rattle.stateful_db.specs.Calls.{Calls}
use Rattle.stateful_db_plain.specs.declared.medium.PlainMedium.{PlainMedium}
use Rattle.stateful_db_plain.specs.declared.database.Plain.{Plain}
use Rattle.stateful_db_plain.specs.Whole.{Whole}
use Rattle.stateful_db_plain.specs.Rooted.{state_of}

-- the states of the checkpoints of a medium
abbrev pub disk_of : PlainMedium → Disk Whole
disk_of m = mapped state_of (kept.disk_of m.medium)

-- its next batch id
abbrev pub next_of : PlainMedium → ℕ
next_of m = kept.next_of m.medium

-- the calls on it
abbrev pub calls_of : PlainMedium → Calls
calls_of m = kept.calls_of m.medium

-- the id of the last applied batch, the states, and the tokens that are out
abbrev pub standing_of : Plain → Standing Whole
standing_of d = mapped_standing state_of (kept.standing_of d.opened)

-- the next batch id of a database
abbrev pub next_here : Plain → ℕ
next_here d = kept.next_of (kept.medium_of d.opened)

-- the calls on its medium
abbrev pub calls_here : Plain → Calls
calls_here d = kept.calls_of (kept.medium_of d.opened)
