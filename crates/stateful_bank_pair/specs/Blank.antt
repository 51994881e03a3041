-- When the databases of the pair are empty.
use Rattle.std.specs.Prelude.{ℕ, refl}
use Rattle.std.specs.declared.cmp.Ord as ord
use Rattle.std.specs.declared.cmp.PartialEq as eq
use Rattle.std.specs.declared.cmp.PartialOrd as partial
use Rattle.stateful_db.specs.Pair.{pair}
use Rattle.stateful_bank_app.specs.EmptyMedia.{both_empty}
use Rattle.stateful_bank_app.specs.Fresh.{AreEmpty}
use Rattle.stateful_bank_logs.specs.Kept.{BalancesDb, AmountsDb, balances, amounts}
use Rattle.stateful_bank_logs.specs.Kept.{balances_member, amounts_member}
use Rattle.stateful_bank_logs.specs.Kept.{BalancesAreBlank, AmountsAreBlank, blank_is_empty}

-- what holds the two databases
abbrev pub PairDatabases : ord.Ghosts ℕ → eq.Ghosts ℕ → partial.Ghosts ℕ → Type 0
PairDatabases o e p = BalancesDb o e p × AmountsDb

module _ {o : ord.Ghosts ℕ} {e : eq.Ghosts ℕ} {p : partial.Ghosts ℕ} where
  -- both are closed on empty media
  abbrev pub AreBlank : PairDatabases o e p → Type 0
  AreBlank d = BalancesAreBlank d.0 × AmountsAreBlank d.1

  pub blank_are_empty : (d : PairDatabases o e p)
      → AreBlank d
      → AreEmpty (pair balances amounts) (balances_member d.0, amounts_member d.1)
  blank_are_empty d b =
      both_empty balances amounts (balances_member d.0) (amounts_member d.1) refl
      (blank_is_empty balances.target_of (λ target. target) balances.begun balances.initial _ _ b.0)
      (blank_is_empty amounts.target_of (λ target. target) amounts.begun amounts.initial _ _ b.1)
