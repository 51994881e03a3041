use Rattle.std.proofs.Common.{◌≡◌, ℕ, Option, drop}
use Rattle.stateful_db_plain.specs.Writes.{value_through}
use Rattle.stateful_db_plain.proofs.changes.value_in.Given as goal

-- the layers that are left say the same
abbrev pub invariant-loop-layer : goal.invariant-loop-layer
invariant-loop-layer l = (before : Option ℕ) → value_through (drop l.layer-index l.layers) l.key before ≡ value_through l.layers l.key before
