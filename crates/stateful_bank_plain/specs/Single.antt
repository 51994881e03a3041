-- Balances in one database that is kept whole.
use Rattle.std.specs.Prelude.{ℕ, ◌+◌, List, [], ◌∷◌}
use Rattle.stateful_base.specs.declared.target.Target.{Target}
use Rattle.stateful_bank.specs.Balances.{balance_of, with_balance}
use Rattle.stateful_db_plain.specs.Whole.{Whole, initial, target_of}
use Rattle.stateful_db_plain.specs.Shown.{DraftShows}
use Rattle.stateful_db_plain.specs.declared.batch.PlainUnmerkleized.{PlainUnmerkleized}
use Rattle.stateful_bank_app.specs.Rules.{Rules}

-- the target of a block's one database; a block with another number of targets commits to the empty
-- state
abbrev pub one_target : List Target → Target
one_target [] = target_of initial
one_target (target ∷ []) = target
one_target (target ∷ other ∷ targets) = target_of initial

-- the state of these entries, one applied batch behind another state
abbrev pub state_after : Whole → List (ℕ × ℕ) → Whole
state_after s entries = record { size = s.size + 1; entries = entries }

-- what a block of the bank does to the one database
abbrev pub single_rules : Rules Whole Target
single_rules = record {
  Changes = List (ℕ × ℕ);
  none = λ s. s.entries;
  balance = λ s entries account. balance_of entries account;
  with_balance = with_balance;
  sealed = λ s entries ops height. state_after s entries;
  listed = λ target. target ∷ [];
  committed = one_target;
}

-- a batch of this id leads to these entries, over a chain whose first point is its parent
abbrev pub HoldsEntries : PlainUnmerkleized
    → List (ℕ × ℕ)
    → ℕ
    → ℕ × Whole
    → List (ℕ × Whole)
    → Type 0
HoldsEntries u entries i p c = DraftShows u ((i, state_after p.1 entries) ∷ p ∷ c)
