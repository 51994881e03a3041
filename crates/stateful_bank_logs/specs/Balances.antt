-- Balances in a database of keys, and what batches write there.
use Rattle.std.specs.Prelude.{◌≡◌, ℕ, ◌==◌, ◌<◌, Bool, if◌then◌else◌, List, [], ◌∷◌, Option, Some}
use Rattle.std.specs.Prelude.{None, is_some, unwrap_or}
use Rattle.std.specs.Ordering.{nat_cmp}
use Rattle.std.specs.List.Sorted.{IsStrictlySortedBy}
use Rattle.std.specs.BTreeMap.{insert_entry, is_at}
use Rattle.std.specs.Map.{lookup, keys_of}
use Rattle.stateful_base.specs.Number.{u64_format}
use Rattle.stateful_db_overlay.specs.Chains.{Stands}
use Rattle.stateful_db_any.specs.declared.op.AnyOp.{AnyOp}
use Rattle.stateful_db_any.specs.declared.op.AnyOp.TheVariants.{Commit, Update, Delete}
use Rattle.stateful_db_any.specs.Any as any
use Rattle.stateful_db_any.specs.Shown.{Draft, After}

-- the accounts that were written, by ascending numbers: each with its balance, or with none for 0
abbrev pub Writes : Type 0
Writes = List (ℕ × Option ℕ)

-- what an account has on this state behind these writes
abbrev pub balance_on : any.State ℕ ℕ → Writes → ℕ → ℕ
balance_on s writes account =
    unwrap_or
    (unwrap_or (lookup (is_at (nat_cmp account)) writes) (any.value_at nat_cmp s account)) 0

-- the writes, with this balance of the account
abbrev pub with_balance : Writes → ℕ → ℕ → Writes
with_balance writes account balance =
    insert_entry nat_cmp writes account (if balance == 0 then None else Some balance)

-- the state behind a batch of these writes, whose commit has the height
abbrev pub balances_after : any.State ℕ ℕ → Writes → ℕ → any.State ℕ ℕ
balances_after s writes height =
    any.sealed nat_cmp u64_format.spelling u64_format.spelling
    (record { writes = writes; metadata = Some height }) s

-- a key has a value on a state
abbrev pub live_on : any.State ℕ ℕ → ℕ → Bool
live_on s key = is_some (any.live_at nat_cmp s key)

-- the key that an operation writes
abbrev pub key_of : AnyOp ℕ ℕ → ℕ
key_of (Commit metadata) = 0
key_of (Update key value) = key
key_of (Delete key) = key

-- the keys of these operations are greater than this one
abbrev pub AreBeyond : ℕ → List (AnyOp ℕ ℕ) → Type 0
AreBeyond key [] = Unit {0}
AreBeyond key (op ∷ ops) = (key < key_of op) × AreBeyond key ops

-- the operations behind a write are of greater keys
abbrev pub IsInOrder : (ℕ → Bool) → Writes → Type 0
IsInOrder live [] = Unit {0}
IsInOrder live (write ∷ writes) =
    AreBeyond write.0 (any.ops_for live writes) × IsInOrder live writes

-- A batch of this id writes that, over a chain whose first point is its parent: it leads to the same
-- operations. It may have deletes of dead keys beside.
pub record HoldsWrites (u : Draft ℕ ℕ) (writes : Writes) (i : ℕ) (p : ℕ × any.State ℕ ℕ)
    (c : List (ℕ × any.State ℕ ℕ)) : Type 0 where
  pub id_is : i ≡ u.id
  pub older : p.0 < i
  pub stands : Stands (After nat_cmp u64_format.spelling u64_format.spelling) u.below.base
      u.below.layers (p ∷ c)
  pub parent : u.parent ≡ p.1.target
  pub same : any.ops_for (live_on p.1) u.changes.writes ≡ any.ops_for (live_on p.1) writes
  pub ordered : IsInOrder (live_on p.1) u.changes.writes
  pub writes_ordered : IsInOrder (live_on p.1) writes
  pub sorted : IsStrictlySortedBy nat_cmp (keys_of writes)
