use Rattle.std.proofs.Common.{◌≡◌, drop, Option}
use Rattle.stateful_db_compact.specs.declared.op.KeylessOp.{KeylessOp}
use Rattle.stateful_db_keyless.specs.Through.{op_through}
use Rattle.stateful_db_keyless.proofs.keyless.reads.op_in.Given as goal

-- the layers that are left say the same
abbrev pub invariant-loop-layer : goal.invariant-loop-layer
invariant-loop-layer g l = (below : Option (KeylessOp g.row.V.Denot)) → op_through (drop l.layer-index l.layers) l.at below ≡ op_through l.layers l.at below
