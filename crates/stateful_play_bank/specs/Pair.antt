-- The grounds of plays over the pair: balances, before the amounts of operations.
use Rattle.std.specs.Prelude.{ℕ, [], map}
use Rattle.std.specs.Ordering.{nat_cmp}
use Rattle.std.specs.declared.cmp.Ord as ord
use Rattle.std.specs.declared.cmp.PartialEq as eq
use Rattle.std.specs.declared.cmp.PartialOrd as partial
use Rattle.stateful_base.specs.Number.{u64_format}
use Rattle.stateful_base.specs.declared.target.Target.{Target}
use Rattle.stateful_db.specs.Pair.{left, right, by_number}
use Rattle.stateful_db.specs.Pair as two
use Rattle.stateful_db_any.specs.Shown.{Draft, Seal}
use Rattle.stateful_db_any.specs.Shown as any
use Rattle.stateful_db_keyless.specs.KeylessShown as keyless
use Rattle.stateful_db_keyless.specs.declared.keyless.batch.KeylessMerkleized.{KeylessMerkleized}
use Rattle.stateful_db_keyless.specs.declared.keyless.batch.KeylessUnmerkleized.{KeylessUnmerkleized}
use Rattle.stateful_bank_app.specs.Fresh.{AreUncalled}
use Rattle.stateful_bank_logs.specs.Kept.{balances, balances_member, balances_next, balances_failed}
use Rattle.stateful_bank_logs.specs.Kept.{amounts, amounts_member, amounts_next, amounts_failed}
use Rattle.stateful_bank_logs.specs.Kept.{balances_calls, amounts_calls}
use Rattle.stateful_bank_pair.specs.Blank.{PairDatabases, AreBlank}
use Rattle.stateful_bank_pair.specs.Pair.{States, pair_rules, HoldsPair}
use Rattle.stateful_play_world.specs.Grounds.{Grounds}

module _ {o : ord.Ghosts ℕ} {e : eq.Ghosts ℕ} {p : partial.Ghosts ℕ} where
  abbrev pub pair : Grounds (Draft ℕ ℕ × KeylessUnmerkleized ℕ) (Seal ℕ ℕ × KeylessMerkleized ℕ)
      (PairDatabases o e p)
  pair = record {
    Ids = ℕ × ℕ;
    States = States;
    Targets = Target × Target;
    rules = pair_rules;
    holds = HoldsPair;
    kind = two.pair balances amounts;
    shows = λ m c.
        any.SealShows nat_cmp u64_format.spelling u64_format.spelling m.0 (map left c)
        × keyless.SealShows m.1 (map right c);
    members = λ d. (balances_member d.0, amounts_member d.1);
    next = λ d. (balances_next d.0, amounts_next d.1);
    counted = λ d. by_number (balances_failed d.0 0) (amounts_failed d.1);
    Blank = λ d.
        AreBlank d
        × AreUncalled 2 (by_number (balances_calls d.0 0) (amounts_calls d.1)) [];
  }
