-- The databases of the triple, wherever they are, and when they are empty.
use Rattle.std.specs.Prelude.{ℕ, Option, refl}
use Rattle.std.specs.declared.cmp.Ord as ord
use Rattle.std.specs.declared.cmp.PartialEq as eq
use Rattle.std.specs.declared.cmp.PartialOrd as partial
use Rattle.stateful_base.specs.declared.target.CompactTarget.{CompactTarget}
use Rattle.stateful_db.specs.Calls.{Calls}
use Rattle.stateful_db.specs.Member.{Member}
use Rattle.stateful_db.specs.Pair.{pair}
use Rattle.stateful_db.specs.Targeted.{compact_target}
use Rattle.stateful_db.specs.declared.held.Held.{Held}
use Rattle.stateful_db_compact.specs.Compacted as compact
use Rattle.stateful_db_compact.specs.CompactStored as stored
use Rattle.stateful_db_compact.specs.declared.compact.batch.KeylessUnjournaledMerkleized.{KeylessUnjournaledMerkleized}
use Rattle.stateful_db_compact.specs.declared.compact.batch.KeylessUnjournaledUnmerkleized.{KeylessUnjournaledUnmerkleized}
use Rattle.stateful_db_compact.specs.declared.compact.database.CompactDb.{CompactDb}
use Rattle.stateful_db_compact.specs.declared.compact.medium.CompactMedium.{CompactMedium}
use Rattle.stateful_bank_app.specs.EmptyMedia.{both_empty}
use Rattle.stateful_bank_app.specs.Fresh.{AreEmpty}
use Rattle.stateful_bank_logs.specs.Kept.{BalancesDb, balances, amounts}
use Rattle.stateful_bank_logs.specs.Kept.{balances_member, amounts_member, BalancesAreBlank}
use Rattle.stateful_bank_logs.specs.Kept.{AmountsAreBlank, IsBlank, blank_is_empty, member_by}
use Rattle.stateful_bank_logs.specs.Kept.{next_by, failed_by, calls_by}
use Rattle.stateful_bank_triple.specs.Logs.{latest}
use Rattle.stateful_bank_triple.specs.declared.logs.AmountLogs.{AmountLogs}

-- what holds the compact database, whose passes have this type
abbrev pub LatestDb : Type 0 → Type 0
LatestDb P =
    Held (CompactDb ℕ) (compact.State ℕ) (KeylessUnjournaledUnmerkleized ℕ)
    (KeylessUnjournaledMerkleized ℕ) (Unit {0}) CompactTarget (CompactMedium ℕ) P

module _ {P : Type 0} where
  abbrev pub latest_member : LatestDb P → Member (compact.State ℕ)
  latest_member = member_by stored.standing_of stored.disk_of

  abbrev pub latest_next : LatestDb P → ℕ
  latest_next = next_by stored.next_here stored.next_of

  abbrev pub latest_failed : LatestDb P → ℕ → ℕ
  latest_failed = failed_by stored.calls_here stored.calls_of

  abbrev pub latest_calls : LatestDb P → ℕ → Option Calls
  latest_calls = calls_by stored.calls_here stored.calls_of

  -- the compact database is closed on an empty medium
  abbrev pub LatestIsBlank : LatestDb P → Type 0
  LatestIsBlank d = IsBlank latest.initial (latest_member d) (latest_next d)

-- what holds the three databases
abbrev pub TripleDatabases : ord.Ghosts ℕ → eq.Ghosts ℕ → partial.Ghosts ℕ → Type 0
TripleDatabases o e p = BalancesDb o e p × AmountLogs

module _ {o : ord.Ghosts ℕ} {e : eq.Ghosts ℕ} {p : partial.Ghosts ℕ} where
  -- all are closed on empty media
  abbrev pub AreBlank : TripleDatabases o e p → Type 0
  AreBlank d =
      BalancesAreBlank d.0 × (AmountsAreBlank d.1.both.0 × LatestIsBlank d.1.both.1)

  pub blank_are_empty : (d : TripleDatabases o e p)
      → AreBlank d
      → AreEmpty (pair balances (pair amounts latest))
      (balances_member d.0, (amounts_member d.1.both.0, latest_member d.1.both.1))
  blank_are_empty d b =
      both_empty balances (pair amounts latest) (balances_member d.0)
      (amounts_member d.1.both.0, latest_member d.1.both.1) refl
      (blank_is_empty balances.target_of (λ target. target) balances.begun balances.initial _ _ b.0)
      (both_empty amounts latest (amounts_member d.1.both.0) (latest_member d.1.both.1) refl
      (blank_is_empty amounts.target_of (λ target. target) amounts.begun amounts.initial _ _ b.1.0)
      (blank_is_empty latest.target_of compact_target latest.begun latest.initial _ _ b.1.1))
