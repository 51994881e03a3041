-- What a walk from a block through its ancestors finds.
use Rattle.std.specs.Prelude.{◌≡◌, ◌≢◌, ◌⊎◌, ◌++◌, ◌∷◌, [], ℕ, Option, List, take}
use Rattle.stateful_base.specs.Names.{Header, Named}
use Rattle.stateful_base.specs.declared.digest.Digest.{Digest}
use Rattle.stateful_base.specs.declared.anchor.Anchor.{Anchor}
use Rattle.stateful_exec_cache.specs.Cache.{IsAtHand}
use Rattle.stateful_exec_cache.specs.Judgement.{IsJudged}
use Rattle.stateful_exec_cache.specs.declared.cache.Cached.{Cached}
use Rattle.stateful_exec_cache.specs.declared.judgement.Judgement.TheVariants as judged
use Rattle.stateful_exec_walk.specs.Path.{IsMissing, IsCovered, Leads, IsOneAbove}
use Rattle.stateful_exec_walk.specs.declared.request.Request.{Request}
use Rattle.stateful_exec_walk.specs.declared.request.Request.TheVariants.{Verify, Recover}
use Rattle.stateful_exec_walk.specs.declared.walk.Standing.{Standing}
use Rattle.stateful_exec_walk.specs.declared.walk.Standing.TheVariants.{AtHand, Covered, Missing}
use Rattle.stateful_exec_walk.specs.declared.walk.Acquired.{Acquired}
use Rattle.stateful_exec_walk.specs.declared.walk.Acquired.TheVariants.{Valid, Invalid, Ask, Waits}
use Rattle.stateful_exec_walk.specs.declared.walk.Acquired.TheVariants.{Ready}

module _ {B U : Type 0} (header : Header B) (anchor : Anchor) (cache : List (Cached U)) where
  abbrev pub StandsAt : Named B → Standing → Type 0
  StandsAt b AtHand = IsAtHand anchor cache b.digest
  StandsAt b Covered = IsCovered header anchor cache b
  StandsAt b Missing = IsMissing header anchor cache b

  -- What the blocks lead to, below those on top: one at hand, with the missing ones above it; a
  -- missing one, behind which there is none; or one that is covered, or whose next block isn't one
  -- lower and its parent.
  abbrev pub Walks : List (Named B) → List (Named B) → Acquired B → Type 0
  Walks top blocks (Ready path) =
      (missing : List (Named B))
      × (rest : List (Named B))
      × (path.blocks ≡ top ++ missing)
      × Leads header anchor cache blocks missing path.parent rest
      × IsAtHand anchor cache path.parent.digest
  Walks top blocks (Ask digest) =
      (missing : List (Named B))
      × («end» : Named B)
      × Leads header anchor cache blocks missing «end» []
      × IsMissing header anchor cache «end»
      × (digest ≡ header.parent «end».block)
  Walks top blocks Invalid =
      (missing : List (Named B))
      × («end» : Named B)
      × (rest : List (Named B))
      × Leads header anchor cache blocks missing «end» rest
      ×
      (IsCovered header anchor cache «end»
      ⊎
      (IsMissing header anchor cache «end»
      ×
      ((next : Named B)
      × (more : List (Named B))
      × (rest ≡ next ∷ more)
      × (IsOneAbove header «end» next → ⊥))))
  Walks top blocks acquired = ⊥

  -- What a run of a block needs, where these blocks are at hand, its parent first: the parent, or
  -- it is walked from.
  pub data IsNeeded (b : Named B) : List (Named B) → Acquired B → Type 0 where
    orphan : {chain : List (Named B)} {digest : Digest}
        → chain ≡ []
        → digest ≡ header.parent b.block
        → IsNeeded b chain (Ask digest)
    stranger : {chain more : List (Named B)} {parent : Named B}
        → chain ≡ parent ∷ more
        → parent.digest ≢ header.parent b.block
        → IsNeeded b chain Invalid
    child : {chain more : List (Named B)} {parent : Named B} {found : Acquired B}
        → chain ≡ parent ∷ more
        → parent.digest ≡ header.parent b.block
        → Walks (b ∷ []) chain found
        → IsNeeded b chain found

  module _ (stored : ℕ → Option (Named B)) where
    -- What the verification of a block needs: it is judged without a run of the block, or has to be
    -- run.
    pub data IsVerified (b : Named B) (chain : List (Named B)) : Acquired B → Type 0 where
      valid : IsJudged header anchor cache stored b judged.Valid → IsVerified b chain Valid
      invalid : IsJudged header anchor cache stored b judged.Invalid → IsVerified b chain Invalid
      waits : IsJudged header anchor cache stored b judged.Waits → IsVerified b chain Waits
      runs : {found : Acquired B}
          → IsJudged header anchor cache stored b judged.Open
          → IsNeeded b chain found
          → IsVerified b chain found

    -- What a request needs, with the blocks that were acquired for it. The parent of the block to
    -- judge is the next of its ancestry, or the first that was acquired. The parent of a proposal
    -- is walked from.
    abbrev pub IsPrepared : {C I : Type 0} → Request B C I → List (Named B) → Acquired B → Type 0
    IsPrepared (Verify t ancestry) acquired found =
        IsVerified ancestry.first (take 1 ancestry.rest ++ acquired) found
    IsPrepared (Recover t context ancestry input kind) acquired found =
        Walks [] (ancestry.first ∷ acquired) found
