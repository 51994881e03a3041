-- The one database, wherever it is, and when it is empty.
use Rattle.std.proofs.Common.{◌≡◌, ℕ, Option, Some, None, sym, subst}
use Rattle.stateful_base.specs.declared.target.Target.{Target}
use Rattle.stateful_db.specs.Calls.{Calls}
use Rattle.stateful_db.specs.Member.{Member, here, closed, lost, away}
use Rattle.stateful_db.specs.Single.{single}
use Rattle.stateful_db.specs.declared.held.Held.{Held}
use Rattle.stateful_db.specs.declared.held.Held.TheVariants as held
use Rattle.stateful_db_plain.specs.Stored.{standing_of, disk_of, calls_of, calls_here}
use Rattle.stateful_db_plain.specs.Stored as stored
use Rattle.stateful_db_plain.specs.Whole.{Whole, begun, initial, target_of}
use Rattle.stateful_db_plain.specs.declared.batch.PlainMerkleized.{PlainMerkleized}
use Rattle.stateful_db_plain.specs.declared.batch.PlainUnmerkleized.{PlainUnmerkleized}
use Rattle.stateful_db_plain.specs.declared.database.Plain.{Plain}
use Rattle.stateful_db_plain.specs.declared.pass.PlainPass.{PlainPass}
use Rattle.stateful_db_plain.specs.declared.medium.PlainMedium.{PlainMedium}
use Rattle.stateful_bank_app.specs.Fresh.{AreEmpty}
use Rattle.stateful_bank_app.specs.EmptyMedia.{empty_on, one_empty}

-- what holds the one database
abbrev pub OneDatabase : Type 0
OneDatabase =
    Held Plain Whole PlainUnmerkleized PlainMerkleized (Unit {0}) Target PlainMedium PlainPass

-- the database, wherever it is
abbrev pub member_of : OneDatabase → Member Whole
member_of = elim [
  | held.Here db ↦ here (standing_of db)
  | held.Closed medium ↦ closed (disk_of medium)
  | held.Lost medium ↦ lost (disk_of medium)
  | held.Away ↦ away
]

-- the calls on it, unless it is away
abbrev pub calls_on : OneDatabase → ℕ → Option Calls
calls_on d i = elim d [
  | held.Here db ↦ Some (calls_here db)
  | held.Closed medium ↦ Some (calls_of medium)
  | held.Lost medium ↦ Some (calls_of medium)
  | held.Away ↦ None
]

-- the batch id that it draws next
abbrev pub next_of : OneDatabase → ℕ
next_of = elim [
  | held.Here db ↦ stored.next_here db
  | held.Closed medium ↦ stored.next_of medium
  | held.Lost medium ↦ stored.next_of medium
  | held.Away ↦ 0
]

-- it is closed on an empty medium
pub record IsBlank (database : OneDatabase) : Type 0 where
  pub member_is : member_of database ≡ empty_on initial
  pub next_is : next_of database ≡ 1

pub blank_is_empty : (database : OneDatabase)
    → IsBlank database
    → AreEmpty (single target_of (λ target. target) begun initial) (member_of database)
blank_is_empty database b =
    subst (λ m. AreEmpty (single target_of (λ target. target) begun initial) m) (sym b.member_is)
    (one_empty target_of (λ target. target) begun initial)
