-- The databases of balances and of amounts by themselves: what each means, wherever it is, and when
-- it is empty.
use Rattle.std.specs.Prelude.{◌≡◌, ℕ, Option, Some, None}
use Rattle.std.specs.Ordering.{nat_cmp}
use Rattle.std.specs.declared.cmp.Ord as ord
use Rattle.std.specs.declared.cmp.PartialEq as eq
use Rattle.std.specs.declared.cmp.PartialOrd as partial
use Rattle.std.proofs.Common.{sym, subst}
use Rattle.stateful_base.specs.Number.{u64_format}
use Rattle.stateful_base.specs.declared.target.Target.{Target}
use Rattle.stateful_db.specs.Calls.{Calls}
use Rattle.stateful_db.specs.Databases.{Databases}
use Rattle.stateful_db.specs.Disk.{Disk, Standing}
use Rattle.stateful_db.specs.Member.{Member, here, closed, lost, away}
use Rattle.stateful_db.specs.Single.{single}
use Rattle.stateful_db.specs.declared.held.Held.{Held}
use Rattle.stateful_db.specs.declared.held.Held.TheVariants as held
use Rattle.stateful_db_any.specs.Any as any
use Rattle.stateful_db_any.specs.Shown.{Draft, Seal}
use Rattle.stateful_db_any.specs.Stored as any_stored
use Rattle.stateful_db_any.specs.declared.database.AnyDb.{AnyDb}
use Rattle.stateful_db_any.specs.declared.medium.AnyMedium.{AnyMedium}
use Rattle.stateful_db_any.specs.declared.pass.AnyPass.{AnyPass}
use Rattle.stateful_db_keyless.specs.Keyless as keyless
use Rattle.stateful_db_keyless.specs.KeylessStored as keyless_stored
use Rattle.stateful_db_keyless.specs.declared.keyless.batch.KeylessMerkleized.{KeylessMerkleized}
use Rattle.stateful_db_keyless.specs.declared.keyless.batch.KeylessUnmerkleized.{KeylessUnmerkleized}
use Rattle.stateful_db_keyless.specs.declared.keyless.database.KeylessDb.{KeylessDb}
use Rattle.stateful_db_keyless.specs.declared.keyless.medium.KeylessMedium.{KeylessMedium}
use Rattle.stateful_db_keyless.specs.declared.keyless.pass.KeylessPass.{KeylessPass}
use Rattle.stateful_bank_app.specs.Fresh.{AreEmpty}
use Rattle.stateful_bank_app.specs.EmptyMedia.{empty_on, one_empty}

-- Of a database that is here, or of its medium.
module _ {D S U E C T M P : Type 0} where
  -- how it stands
  abbrev pub member_by : (D → Standing S) → (M → Disk S) → Held D S U E C T M P → Member S
  member_by standing disk = elim [
    | held.Here db ↦ here (standing db)
    | held.Closed medium ↦ closed (disk medium)
    | held.Lost medium ↦ lost (disk medium)
    | held.Away ↦ away
  ]

  -- the batch id that it draws next
  abbrev pub next_by : (D → ℕ) → (M → ℕ) → Held D S U E C T M P → ℕ
  next_by of of_medium = elim [
    | held.Here db ↦ of db
    | held.Closed medium ↦ of_medium medium
    | held.Lost medium ↦ of_medium medium
    | held.Away ↦ 0
  ]

  -- how often it has failed
  abbrev pub failed_by : (D → Calls) → (M → Calls) → Held D S U E C T M P → ℕ → ℕ
  failed_by of of_medium d i = elim d [
    | held.Here db ↦ (of db).faults
    | held.Closed medium ↦ (of_medium medium).faults
    | held.Lost medium ↦ (of_medium medium).faults
    | held.Away ↦ 0
  ]

  -- the calls on it, unless it is away
  abbrev pub calls_by : (D → Calls) → (M → Calls) → Held D S U E C T M P → ℕ → Option Calls
  calls_by of of_medium d i = elim d [
    | held.Here db ↦ Some (of db)
    | held.Closed medium ↦ Some (of_medium medium)
    | held.Lost medium ↦ Some (of_medium medium)
    | held.Away ↦ None
  ]

-- a database is closed on a medium with this state alone
pub record IsBlank {S : Type 0} (initial : S) (m : Member S) (next : ℕ) : Type 0 where
  pub member_is : m ≡ empty_on initial
  pub next_is : next ≡ 1

pub blank_is_empty : {S T : Type 0} (target_of : S → T) (targeted : T → Target) (begun : S → S)
    (initial : S) (m : Member S) (next : ℕ)
    → IsBlank initial m next
    → AreEmpty (single target_of targeted begun initial) m
blank_is_empty target_of targeted begun initial m next b =
    subst (λ n. AreEmpty (single target_of targeted begun initial) n) (sym b.member_is)
    (one_empty target_of targeted begun initial)

-- the database of balances by itself
abbrev pub balances : Databases ℕ (any.State ℕ ℕ) Target
balances =
    single any.target_of (λ target. target)
    (any.begun nat_cmp u64_format.spelling u64_format.spelling)
    (any.initial u64_format.spelling u64_format.spelling)

-- the database of amounts by itself
abbrev pub amounts : Databases ℕ (keyless.State ℕ) Target
amounts =
    single keyless.target_of (λ target. target) (keyless.begun u64_format.spelling)
    (keyless.initial u64_format.spelling)

-- what holds the balances, whose accounts have this order
abbrev pub BalancesDb : ord.Ghosts ℕ → eq.Ghosts ℕ → partial.Ghosts ℕ → Type 0
BalancesDb o e p =
    Held (AnyDb ℕ ℕ o e p) (any.State ℕ ℕ) (Draft ℕ ℕ) (Seal ℕ ℕ) (Unit {0}) Target
    (AnyMedium ℕ ℕ) (AnyPass ℕ ℕ)

module _ {o : ord.Ghosts ℕ} {e : eq.Ghosts ℕ} {p : partial.Ghosts ℕ} where
  abbrev pub balances_member : BalancesDb o e p → Member (any.State ℕ ℕ)
  balances_member = member_by any_stored.standing_of any_stored.disk_of

  abbrev pub balances_next : BalancesDb o e p → ℕ
  balances_next = next_by any_stored.next_here any_stored.next_of

  abbrev pub balances_failed : BalancesDb o e p → ℕ → ℕ
  balances_failed = failed_by any_stored.calls_here any_stored.calls_of

  abbrev pub balances_calls : BalancesDb o e p → ℕ → Option Calls
  balances_calls = calls_by any_stored.calls_here any_stored.calls_of

  -- the balances are closed on an empty medium
  abbrev pub BalancesAreBlank : BalancesDb o e p → Type 0
  BalancesAreBlank d = IsBlank balances.initial (balances_member d) (balances_next d)

-- what holds the amounts
abbrev pub AmountsDb : Type 0
AmountsDb =
    Held (KeylessDb ℕ) (keyless.State ℕ) (KeylessUnmerkleized ℕ) (KeylessMerkleized ℕ) (Unit {0})
    Target (KeylessMedium ℕ) (KeylessPass ℕ)

abbrev pub amounts_member : AmountsDb → Member (keyless.State ℕ)
amounts_member = member_by keyless_stored.standing_of keyless_stored.disk_of

abbrev pub amounts_next : AmountsDb → ℕ
amounts_next = next_by keyless_stored.next_here keyless_stored.next_of

abbrev pub amounts_failed : AmountsDb → ℕ → ℕ
amounts_failed = failed_by keyless_stored.calls_here keyless_stored.calls_of

abbrev pub amounts_calls : AmountsDb → ℕ → Option Calls
amounts_calls = calls_by keyless_stored.calls_here keyless_stored.calls_of

-- the amounts are closed on an empty medium
abbrev pub AmountsAreBlank : AmountsDb → Type 0
AmountsAreBlank d = IsBlank amounts.initial (amounts_member d) (amounts_next d)
