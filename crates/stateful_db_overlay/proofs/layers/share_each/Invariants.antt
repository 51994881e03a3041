use Rattle.std.proofs.Common.{◌≡◌, ◌++◌, drop}
use Rattle.stateful_db_overlay.proofs.layers.share_each.Given as goal

-- those so far and those that are left are all
abbrev pub invariant-loop-layer : goal.invariant-loop-layer
invariant-loop-layer g l = l.out.items ++ drop l.layer-index l.layers ≡ l.initial.out.items ++ l.layers
