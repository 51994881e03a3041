-- What the definitions over a history take beside it.
use Rattle.std.specs.Prelude.{ℕ, Option}
use Rattle.stateful_base.specs.Names.{Header, Named}
use Rattle.stateful_base.specs.declared.digest.Digest.{Digest}
use Rattle.stateful_base.specs.declared.round.Round.{Round}
use Rattle.stateful_db.specs.Meaning.{Meaning}

-- blocks, an application over states, and the finalized blocks that a store was handed
pub record Setting (B S T : Type 0) : Type 0 where
  -- what blocks say of themselves
  pub header : Header B
  -- what blocks do to states
  pub meaning : Meaning B S T
  -- what a block commits to that leads to these states
  pub target_of : S → T
  -- the finalized block of a height, as it was handed in
  pub stored : ℕ → Option (Named B)

module _ {B S T : Type 0} (s : Setting B S T) where
  -- the digest of the block's parent
  abbrev pub parent_of : Named B → Digest
  parent_of b = s.header.parent b.block

  abbrev pub height_of : Named B → ℕ
  height_of b = s.header.height b.block

  abbrev pub round_of : Named B → Round
  round_of b = s.header.round b.block

  abbrev pub step_of : S → Named B → Option S
  step_of t b = s.meaning.step t b.block
