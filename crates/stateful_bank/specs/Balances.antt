-- Balances of accounts, as entries by ascending account. An account without an entry has 0.
use Rattle.std.specs.Prelude.{ℕ, ◌==◌, if◌then◌else◌, List, Option, Some, unwrap_or}
use Rattle.std.specs.Ordering.{nat_cmp}
use Rattle.std.specs.BTreeMap.{insert_entry, is_at}
use Rattle.std.specs.Map.{lookup, remove_entry}
use Rattle.stateful_bank.specs.declared.op.Op.{Op}
use Rattle.stateful_bank.specs.Accounts as accounts

-- what an account has
abbrev pub balance_of : List (ℕ × ℕ) → ℕ → ℕ
balance_of entries account = unwrap_or (lookup (is_at (nat_cmp account)) entries) 0

-- the entries with this balance of the account; one of 0 has no entry
abbrev pub with_balance : List (ℕ × ℕ) → ℕ → ℕ → List (ℕ × ℕ)
with_balance entries account balance =
    if balance == 0 then remove_entry (is_at (nat_cmp account)) entries
    else insert_entry nat_cmp entries account balance

-- entries as states of accounts, each of which can be read
abbrev pub entries_book : accounts.Book
entries_book =
    record {
      State =
          List (ℕ × ℕ);
      balance =
          λ entries account. Some (balance_of entries account);
      with_balance = with_balance;
    }

-- the entries after an operation, where it is allowed
abbrev pub do_op : List (ℕ × ℕ) → Op → Option (List (ℕ × ℕ))
do_op entries op = accounts.do_op entries_book entries op

-- the entries after these operations in order, where each is allowed
abbrev pub do_ops : List (ℕ × ℕ) → List Op → Option (List (ℕ × ℕ))
do_ops entries ops = accounts.do_ops entries_book entries ops

-- how many of these operations are begun
abbrev pub begun_ops : List (ℕ × ℕ) → List Op → ℕ
begun_ops entries ops = accounts.begun_ops entries_book entries ops

-- the turns of a run or a build of these operations
abbrev pub run_turns : List (ℕ × ℕ) → List Op → ℕ
run_turns entries ops = accounts.run_turns entries_book entries ops
