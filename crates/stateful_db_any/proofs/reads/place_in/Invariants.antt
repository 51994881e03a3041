use Rattle.std.proofs.Common.{◌≡◌, ℕ, drop, Option}
use Rattle.stateful_db_any.specs.Through.{place_through}
use Rattle.stateful_db_any.proofs.reads.place_in.Given as goal

-- the layers that are left say the same
abbrev pub invariant-loop-layer : goal.invariant-loop-layer
invariant-loop-layer g l = (below : Option ℕ) → place_through g.K.Ord.cmp (drop l.layer-index l.layers) l.key below ≡ place_through g.K.Ord.cmp l.layers l.key below
