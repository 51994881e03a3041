-- Anchors of blocks.
use Rattle.stateful_base.specs.Names.{Header, Named}
use Rattle.stateful_base.specs.declared.anchor.Anchor.{Anchor}

-- the block's height, round and digest
abbrev pub anchor_by : {B : Type 0} → Header B → Named B → Anchor
anchor_by header b =
    record {
      height =
          record { 0 = header.height b.block };
      round = header.round b.block;
      digest = b.digest;
    }
