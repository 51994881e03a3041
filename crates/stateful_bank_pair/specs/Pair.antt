-- Balances in a database of keys, before the amounts of all operations in a keyless one.
use Rattle.std.specs.Prelude.{ℕ, List, [], ◌∷◌, map}
use Rattle.stateful_base.specs.Number.{u64_format}
use Rattle.stateful_base.specs.declared.target.Target.{Target}
use Rattle.stateful_db.specs.Pair.{left, right}
use Rattle.stateful_db_any.specs.Any as any
use Rattle.stateful_db_any.specs.Shown.{Draft}
use Rattle.stateful_db_keyless.specs.Keyless as keyless
use Rattle.stateful_db_keyless.specs.declared.keyless.batch.KeylessUnmerkleized.{KeylessUnmerkleized}
use Rattle.stateful_bank_app.specs.Rules.{Rules}
use Rattle.stateful_bank_logs.specs.Balances.{Writes, balance_on, with_balance, balances_after}
use Rattle.stateful_bank_logs.specs.Balances.{HoldsWrites}
use Rattle.stateful_bank_logs.specs.Amounts.{amounts_after, HoldsNothing}

-- the states of the pair
abbrev pub States : Type 0
States = any.State ℕ ℕ × keyless.State ℕ

-- the targets of a block for the two databases; a block with another number of targets commits to
-- the empty states
abbrev pub two_targets : List Target → Target × Target
two_targets (balances ∷ amounts ∷ []) = (balances, amounts)
two_targets _ = (
  any.target_of (any.initial u64_format.spelling u64_format.spelling),
  keyless.target_of (keyless.initial u64_format.spelling),
)

-- what a block of the bank does to the pair
abbrev pub pair_rules : Rules States (Target × Target)
pair_rules = record {
  Changes = Writes;
  none = λ s. [];
  balance = λ s writes account. balance_on s.0 writes account;
  with_balance = with_balance;
  sealed =
      λ s writes ops height. (balances_after s.0 writes height, amounts_after s.1 ops height);
  listed = λ targets. targets.0 ∷ targets.1 ∷ [];
  committed = two_targets;
}

-- a batch of these ids has these writes and no amount yet
abbrev pub HoldsPair : Draft ℕ ℕ × KeylessUnmerkleized ℕ
    → Writes
    → ℕ × ℕ
    → (ℕ × ℕ) × States
    → List ((ℕ × ℕ) × States)
    → Type 0
HoldsPair u writes i p c =
    HoldsWrites u.0 writes i.0 (left p) (map left c)
    × HoldsNothing u.1 i.1 (right p) (map right c)
