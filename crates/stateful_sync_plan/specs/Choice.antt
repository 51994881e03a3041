-- From which block a sync starts.
use Rattle.std.specs.Prelude.{◌≡◌, ℕ, ◌+◌, ◌<◌, ◌^◌, Option, Some, None, Result, Ok, Err}
use Rattle.stateful_base.specs.Names.{Named}
use Rattle.stateful_base.specs.Round.{IsLater}
use Rattle.stateful_base.specs.declared.digest.Digest.{Digest}
use Rattle.stateful_base.specs.declared.floor.Floor.{Floor}
use Rattle.stateful_base.specs.declared.number.Height.{Height}
use Rattle.stateful_base.specs.declared.round.Round.{Round}
use Rattle.stateful_sync_plan.specs.declared.error.Missing.TheVariants.{AtHeight, Fetched}
use Rattle.stateful_sync_plan.specs.declared.error.SyncError.{SyncError}
use Rattle.stateful_sync_plan.specs.declared.error.SyncError.TheVariants.{MissingBlock}
use Rattle.stateful_sync_plan.specs.declared.choice.Resolved.{Resolved}
use Rattle.stateful_sync_plan.specs.declared.choice.Resolved.TheVariants.{Block, Fetch}

-- The block store has come at least as far as the floor's round: it has seen a block processed, and
-- hands out nothing up to a round that isn't before that of the floor.
pub record IsCovered (floor : Floor) (round : Round) (processed : Height) : Type 0 where
  pub processed_is : floor.processed ≡ Some processed
  pub cutoff : Round
  pub cutoff_is : floor.cutoff ≡ Some cutoff
  pub late : IsLater cutoff round → ⊥

-- the store has seen a block processed that is higher than this height
pub record IsBehind (floor : Floor) (height : ℕ) (processed : Height) : Type 0 where
  pub processed_is : floor.processed ≡ Some processed
  pub behind : height < processed.0

module _ {B : Type 0} (stored : ℕ → Option (Named B)) where
  -- the store's block right behind this height, where there is such a height and a block of it
  pub record IsNext (processed : Height) (block : Named B) : Type 0 where
    pub within : processed.0 + 1 < 2 ^ 64
    pub is : stored (processed.0 + 1) ≡ Some block

  -- the block right behind this height is the one of this digest
  abbrev pub HasNext : Height → Digest → Type 0
  HasNext processed payload = (block : Named B) × IsNext processed block × (block.digest ≡ payload)

  -- the store's block of this height, or the refusal that names the height
  pub data IsStored (height : Height) (answer : Result (Named B) SyncError) : Type 0 where
    there : (block : Named B)
        → stored height.0 ≡ Some block
        → answer ≡ Ok block
        → IsStored height answer
    missing : stored height.0 ≡ None
        → answer ≡ Err (MissingBlock (AtHeight height))
        → IsStored height answer

  module _ (floor : Floor) where
    -- What a floor resolves to. Where the store has come at least as far, it is the block right
    -- behind the processed one if that is the floor's own, and else the processed one. In all other
    -- cases the floor's block is to be fetched.
    pub data Resolves (round : Round) (payload : Digest)
        (answer : Result (Resolved B) SyncError) : Type 0 where
      next : (processed : Height) (block : Named B)
          → IsCovered floor round processed
          → IsNext processed block
          → block.digest ≡ payload
          → answer ≡ Ok (Block block)
          → Resolves round payload answer
      processed : (processed : Height) (block : Named B)
          → IsCovered floor round processed
          → (HasNext processed payload → ⊥)
          → stored processed.0 ≡ Some block
          → answer ≡ Ok (Block block)
          → Resolves round payload answer
      missing : (processed : Height)
          → IsCovered floor round processed
          → (HasNext processed payload → ⊥)
          → stored processed.0 ≡ None
          → answer ≡ Err (MissingBlock (AtHeight processed))
          → Resolves round payload answer
      fetch : ((processed : Height) → IsCovered floor round processed → ⊥)
          → answer ≡ Ok (Fetch payload)
          → Resolves round payload answer

    -- What a fetch resolves to, by the heights of blocks: the fetched block, or the processed one
    -- if that is higher.
    pub data ResolvesFetched (height_of : B → ℕ) (fetched : Option (Named B))
        (answer : Result (Named B) SyncError) : Type 0 where
      unanswered : fetched ≡ None
          → answer ≡ Err (MissingBlock Fetched)
          → ResolvesFetched height_of fetched answer
      itself : (block : Named B)
          → fetched ≡ Some block
          → ((processed : Height) → IsBehind floor (height_of block.block) processed → ⊥)
          → answer ≡ Ok block
          → ResolvesFetched height_of fetched answer
      overtaken : (block : Named B) (processed : Height) (other : Named B)
          → fetched ≡ Some block
          → IsBehind floor (height_of block.block) processed
          → stored processed.0 ≡ Some other
          → answer ≡ Ok other
          → ResolvesFetched height_of fetched answer
      overtaken_missing : (block : Named B) (processed : Height)
          → fetched ≡ Some block
          → IsBehind floor (height_of block.block) processed
          → stored processed.0 ≡ None
          → answer ≡ Err (MissingBlock (AtHeight processed))
          → ResolvesFetched height_of fetched answer
