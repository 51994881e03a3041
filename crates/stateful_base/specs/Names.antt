-- How blocks are named.
use Rattle.std.specs.Prelude.{ℕ, List}
use Rattle.stateful_base.specs.declared.digest.Digest.{Digest}
use Rattle.stateful_base.specs.declared.round.Round.{Round}

-- what a block says of itself
pub record Header (Block : Type 0) : Type 0 where
  pub parent : Block → Digest
  pub height : Block → ℕ
  pub round : Block → Round
  pub bytes : Block → List ℕ

-- a block with its digest
pub record Named (Block : Type 0) : Type 0 where
  pub digest : Digest
  pub block : Block
