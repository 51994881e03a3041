use Rattle.std.proofs.Common.{◌≡◌, ℕ, Option, drop}
use Rattle.stateful_db_plain.specs.Writes.{value_over, value_through}
use Rattle.stateful_db_plain.proofs.changes.all_writes.Given as goal

-- what is gathered so far and the layers that are left say what all say
abbrev pub invariant-loop-layer : goal.invariant-loop-layer
invariant-loop-layer l = (key : ℕ) (before : Option ℕ) → value_over l.all.entries key (value_through (drop l.layer-index l.layers) key before) ≡ value_over l.own.entries key (value_through l.layers key before)
