-- Balances in a database of keys, then the amounts of all operations in a keyless one, and then the
-- same amounts in a compact one.
use Rattle.std.specs.Prelude.{ℕ, ◌-◌, ◌==◌, if◌then◌else◌, List, [], ◌∷◌, map}
use Rattle.stateful_base.specs.Number.{u64_format}
use Rattle.stateful_base.specs.declared.target.Target.{Target}
use Rattle.stateful_base.specs.declared.target.CompactTarget.{CompactTarget}
use Rattle.stateful_db.specs.Pair.{left, right}
use Rattle.stateful_db.specs.Targeted.{compact_target}
use Rattle.stateful_db_any.specs.Any as any
use Rattle.stateful_db_any.specs.Shown.{Draft}
use Rattle.stateful_db_keyless.specs.Keyless as keyless
use Rattle.stateful_db_compact.specs.Compacted as compact
use Rattle.stateful_db_keyless.specs.declared.keyless.batch.KeylessUnmerkleized.{KeylessUnmerkleized}
use Rattle.stateful_db_compact.specs.declared.compact.batch.KeylessUnjournaledUnmerkleized.{KeylessUnjournaledUnmerkleized}
use Rattle.stateful_bank_app.specs.Rules.{Rules}
use Rattle.stateful_bank_logs.specs.Balances.{Writes, balance_on, with_balance, balances_after}
use Rattle.stateful_bank_logs.specs.Balances.{HoldsWrites}
use Rattle.stateful_bank_logs.specs.Amounts as amounts
use Rattle.stateful_bank_triple.specs.Compact.{compact_after}
use Rattle.stateful_bank_triple.specs.Compact as latest

-- the states of the triple
abbrev pub States : Type 0
States = any.State ℕ ℕ × (keyless.State ℕ × compact.State ℕ)

-- what a block commits to
abbrev pub Targets : Type 0
Targets = Target × (Target × CompactTarget)

-- the targets of the empty states
abbrev pub empty : Targets
empty = (
  any.target_of (any.initial u64_format.spelling u64_format.spelling),
  (
    keyless.target_of (keyless.initial u64_format.spelling),
    compact.target_of (compact.initial u64_format.spelling),
  ),
)

-- The targets of a block for the three databases. A block with another number of targets commits to
-- the empty states, and so does one whose third has another range than the last operation alone.
abbrev pub three_targets : List Target → Targets
three_targets (balances ∷ amounts ∷ last ∷ []) =
    if last.start.0 == last.end.0 - 1 then
    (balances, (amounts, record { root = last.root; size = last.end })) else empty
three_targets _ = empty

-- what a block of the bank does to the triple
abbrev pub triple_rules : Rules States Targets
triple_rules = record {
  Changes = Writes;
  none = λ s. [];
  balance = λ s writes account. balance_on s.0 writes account;
  with_balance = with_balance;
  sealed = λ s writes ops height. (
    balances_after s.0 writes height,
    (amounts.amounts_after s.1.0 ops height, compact_after s.1.0 s.1.1 ops height),
  );
  listed = λ targets. targets.0 ∷ targets.1.0 ∷ compact_target targets.1.1 ∷ [];
  committed = three_targets;
}

-- a batch of these ids has these writes and no amount yet
abbrev pub HoldsTriple : Draft ℕ ℕ × (KeylessUnmerkleized ℕ × KeylessUnjournaledUnmerkleized ℕ)
    → Writes
    → ℕ × (ℕ × ℕ)
    → (ℕ × (ℕ × ℕ)) × States
    → List ((ℕ × (ℕ × ℕ)) × States)
    → Type 0
HoldsTriple u writes i p c =
    HoldsWrites u.0 writes i.0 (left p) (map left c)
    × (amounts.HoldsNothing u.1.0 i.1.0 (left (right p)) (map left (map right c))
    × latest.HoldsNothing u.1.1 i.1.1 (right (right p)) (map right (map right c)))
