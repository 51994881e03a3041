use Rattle.std.proofs.Common.{◌≡◌, ℕ}
use Rattle.std.specs.Ordering.{nat_cmp}
use Rattle.std.specs.Map.{keys_of}
use Rattle.std.specs.List.Sorted.{IsStrictlySortedBy}
use Rattle.stateful_db_plain.specs.Whole.{value_at}
use Rattle.stateful_db_plain.specs.Writes.{value_over}
use Rattle.stateful_db_plain.proofs.changes.changed.Given as goal

-- the entries so far and the writes that are left, by ascending key, say what all say
abbrev pub invariant-loop-key : goal.invariant-loop-key
invariant-loop-key l =
    record {
      left : IsStrictlySortedBy nat_cmp (keys_of l.key-iterator);
      values : (key : ℕ) → value_over l.key-iterator key (value_at l.after.entries key) ≡ value_over l.writes.entries key (value_at l.entries.entries key);
    }
