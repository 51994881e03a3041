use Rattle.std.proofs.Common.{◌≡◌, drop, Option}
use Rattle.stateful_db_any.specs.declared.op.AnyOp.{AnyOp}
use Rattle.stateful_db_any.specs.Through.{op_through}
use Rattle.stateful_db_any.proofs.reads.op_in.Given as goal

-- the layers that are left say the same
abbrev pub invariant-loop-layer : goal.invariant-loop-layer
invariant-loop-layer g l = (below : Option (AnyOp g.row.K.Denot g.row.V.Denot)) → op_through (drop l.layer-index l.layers) l.at below ≡ op_through l.layers l.at below
