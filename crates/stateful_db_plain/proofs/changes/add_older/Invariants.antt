use Rattle.std.proofs.Common.{◌≡◌, ℕ, Option}
use Rattle.stateful_db_plain.specs.Writes.{value_over}
use Rattle.stateful_db_plain.proofs.changes.add_older.Given as goal

-- what is written so far and the older writes that are left say what all say
abbrev pub invariant-loop-key : goal.invariant-loop-key
invariant-loop-key l = (key : ℕ) (before : Option ℕ) → value_over l.writes.entries key (value_over l.key-iterator key before) ≡ value_over l.initial.writes.entries key (value_over l.older.entries key before)
