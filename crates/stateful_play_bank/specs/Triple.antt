-- The grounds of plays over the triple: balances, then the amounts of operations, and then the same
-- amounts in a compact database.
use Rattle.std.specs.Prelude.{ℕ, [], map}
use Rattle.std.specs.Ordering.{nat_cmp}
use Rattle.std.specs.declared.cmp.Ord as ord
use Rattle.std.specs.declared.cmp.PartialEq as eq
use Rattle.std.specs.declared.cmp.PartialOrd as partial
use Rattle.stateful_base.specs.Number.{u64_format}
use Rattle.stateful_db.specs.Pair.{left, right, by_number}
use Rattle.stateful_db.specs.Pair as two
use Rattle.stateful_db_any.specs.Shown.{Draft, Seal}
use Rattle.stateful_db_any.specs.Shown as any
use Rattle.stateful_db_keyless.specs.KeylessShown as keyless
use Rattle.stateful_db_compact.specs.CompactShown as compact
use Rattle.stateful_db_compact.specs.declared.compact.batch.KeylessUnjournaledMerkleized.{KeylessUnjournaledMerkleized}
use Rattle.stateful_db_compact.specs.declared.compact.batch.KeylessUnjournaledUnmerkleized.{KeylessUnjournaledUnmerkleized}
use Rattle.stateful_db_keyless.specs.declared.keyless.batch.KeylessMerkleized.{KeylessMerkleized}
use Rattle.stateful_db_keyless.specs.declared.keyless.batch.KeylessUnmerkleized.{KeylessUnmerkleized}
use Rattle.stateful_bank_app.specs.Fresh.{AreUncalled}
use Rattle.stateful_bank_logs.specs.Kept.{balances, balances_member, balances_next, balances_failed}
use Rattle.stateful_bank_logs.specs.Kept.{amounts, amounts_member, amounts_next, amounts_failed}
use Rattle.stateful_bank_logs.specs.Kept.{balances_calls, amounts_calls}
use Rattle.stateful_bank_triple.specs.Blank.{TripleDatabases, AreBlank}
use Rattle.stateful_bank_triple.specs.Blank.{latest_member, latest_next, latest_failed}
use Rattle.stateful_bank_triple.specs.Blank.{latest_calls}
use Rattle.stateful_bank_triple.specs.Logs.{latest}
use Rattle.stateful_bank_triple.specs.Triple.{States, Targets, triple_rules, HoldsTriple}
use Rattle.stateful_play_world.specs.Grounds.{Grounds}

module _ {o : ord.Ghosts ℕ} {e : eq.Ghosts ℕ} {p : partial.Ghosts ℕ} where
  abbrev pub triple : Grounds
      (Draft ℕ ℕ × (KeylessUnmerkleized ℕ × KeylessUnjournaledUnmerkleized ℕ))
      (Seal ℕ ℕ × (KeylessMerkleized ℕ × KeylessUnjournaledMerkleized ℕ)) (TripleDatabases o e p)
  triple = record {
    Ids = ℕ × (ℕ × ℕ);
    States = States;
    Targets = Targets;
    rules = triple_rules;
    holds = HoldsTriple;
    kind = two.pair balances (two.pair amounts latest);
    shows = λ m c.
        any.SealShows nat_cmp u64_format.spelling u64_format.spelling m.0 (map left c)
        × (keyless.SealShows m.1.0 (map left (map right c))
        × compact.SealShows m.1.1 (map right (map right c)));
    members = λ d.
        (balances_member d.0, (amounts_member d.1.both.0, latest_member d.1.both.1));
    next = λ d. (balances_next d.0, (amounts_next d.1.both.0, latest_next d.1.both.1));
    counted = λ d.
        by_number (balances_failed d.0 0)
        (by_number (amounts_failed d.1.both.0 0) (latest_failed d.1.both.1));
    Blank = λ d.
        AreBlank d
        × AreUncalled 3
        (by_number (balances_calls d.0 0)
        (by_number (amounts_calls d.1.both.0 0) (latest_calls d.1.both.1))) [];
  }
