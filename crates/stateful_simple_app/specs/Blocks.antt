-- What blocks say of themselves.
use Rattle.std.specs.Prelude.{ℕ, List, ◌++◌, replicate}
use Rattle.stateful_base.specs.Names.{Header}
use Rattle.stateful_base.specs.Number.{u64_format, height_format, location_format}
use Rattle.stateful_base.specs.Round.{round_format}
use Rattle.stateful_base.specs.Digest.{digest_format}
use Rattle.stateful_base.specs.declared.target.Target.{Target}
use Rattle.stateful_db_plain.specs.Whole.{initial, target_of}
use Rattle.stateful_simple_app.specs.declared.block.PayloadBlock.{PayloadBlock}

-- a number in eight bytes, the highest first
unfoldable pub number_bytes : ℕ → List ℕ
number_bytes number = u64_format.spelling number

-- its root, then its start and its end
unfoldable pub target_bytes : Target → List ℕ
target_bytes target =
    digest_format.spelling target.root ++ location_format.spelling target.start
    ++ location_format.spelling target.«end»

module _ {P : Type 0} (bytes : P → List ℕ) where
  -- the fields, one behind the other
  unfoldable pub block_bytes : PayloadBlock P → List ℕ
  block_bytes b =
      digest_format.spelling b.parent ++ height_format.spelling b.height
      ++ round_format.spelling b.round ++ bytes b.payload ++ target_bytes b.target

  abbrev pub block_header : Header (PayloadBlock P)
  block_header =
      record
      { parent = λ b. b.parent; height = λ b. b.height.0; round = λ b. b.round; bytes = block_bytes }

-- the block at height 0, which commits to the empty state
abbrev pub genesis_block : {P : Type 0} → P → PayloadBlock P
genesis_block payload = record {
  parent = record { 0 = replicate 32 0 };
  height = record { 0 = 0 };
  round = record { epoch = record { 0 = 0 }; view = record { 0 = 0 } };
  payload = payload;
  target = target_of initial;
}
