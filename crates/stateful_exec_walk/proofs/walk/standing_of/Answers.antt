use Rattle.stateful_exec_walk.proofs.Walking.{not_at_hand}
use Rattle.stateful_exec_walk.proofs.walk.standing_of.Goals as goal

pub returns-then-knows : goal.returns-then-knows
returns-then-knows g c = rw c.digest.ensures at (c.knows.ensures.0 c.if-knows.true)

pub returns-then-height-anchor : goal.returns-then-height-anchor
returns-then-height-anchor g c = record {
  unknown = not_at_hand g.B.Block.header c.args.anchor c.args.cache.now c.args.block.now _ _ c.digest.ensures c.knows.ensures c.if-knows.false;
  low = rw c.height.ensures at c.if-height-anchor.true;
}

pub returns-else-height-anchor : goal.returns-else-height-anchor
returns-else-height-anchor g c = record {
  unknown = not_at_hand g.B.Block.header c.args.anchor c.args.cache.now c.args.block.now _ _ c.digest.ensures c.knows.ensures c.if-knows.false;
  above = rw c.height.ensures at c.if-height-anchor.false;
}
