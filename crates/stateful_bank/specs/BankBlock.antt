-- Blocks of the bank.
use Rattle.std.specs.Prelude.{ℕ, ◌+◌, List, [], ◌∷◌, ◌++◌, length, replicate}
use Rattle.std.specs.List.{flat_map}
use Rattle.stateful_base.specs.Names.{Header}
use Rattle.stateful_base.specs.declared.digest.Digest.{Digest}
use Rattle.stateful_base.specs.declared.round.Round.{Round}
use Rattle.stateful_base.specs.declared.target.Target.{Target}
use Rattle.stateful_base.specs.Number.{u32_format, height_format, location_format}
use Rattle.stateful_base.specs.Round.{round_format}
use Rattle.stateful_base.specs.Digest.{digest_format}
use Rattle.stateful_bank.specs.declared.op.Op.{Op}
use Rattle.stateful_bank.specs.declared.block.BankBlock.{BankBlock}
use Rattle.stateful_bank.specs.Op.{op_bytes}

-- its root, then its start and its end
unfoldable pub target_bytes : Target → List ℕ
target_bytes target =
    digest_format.spelling target.root ++ location_format.spelling target.start
    ++ location_format.spelling target.«end»

-- height, round, the parent's digest and the turns of its hook
unfoldable pub head_bytes : BankBlock → List ℕ
head_bytes b =
    height_format.spelling b.height ++ round_format.spelling b.round
    ++ digest_format.spelling b.parent ++ b.slow ∷ []

-- the head, and behind it the operations and the targets, each behind their number
unfoldable pub block_bytes : BankBlock → List ℕ
block_bytes b =
    head_bytes b ++ u32_format.spelling (length b.ops) ++ flat_map op_bytes b.ops
    ++ length b.targets ∷ flat_map target_bytes b.targets

abbrev pub block_header : Header BankBlock
block_header =
    record
    { parent = λ b. b.parent; height = λ b. b.height.0; round = λ b. b.round; bytes = block_bytes }

-- the block at height 0, over databases of these targets
abbrev pub genesis_block : List Target → BankBlock
genesis_block targets = record {
  height = record { 0 = 0 };
  round = record { epoch = record { 0 = 0 }; view = record { 0 = 0 } };
  parent = record { 0 = replicate 32 0 };
  slow = 0;
  ops = [];
  targets = targets;
}

-- the block one above a parent of this height and digest, whose hook takes no turn
abbrev pub child_block : ℕ → Digest → Round → List Op → List Target → BankBlock
child_block height parent round ops targets = record {
  height = record { 0 = height + 1 };
  round = round;
  parent = parent;
  slow = 0;
  ops = ops;
  targets = targets;
}
