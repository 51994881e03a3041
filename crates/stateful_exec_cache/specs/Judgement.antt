-- How a block is judged without a run of it.
use Rattle.std.specs.Prelude.{◌≡◌, ◌≢◌, ◌<◌, ◌⊎◌, ℕ, Option, Some, None, List}
use Rattle.stateful_base.specs.Names.{Header, Named}
use Rattle.stateful_base.specs.declared.digest.Digest.{Digest}
use Rattle.stateful_base.specs.declared.anchor.Anchor.{Anchor}
use Rattle.stateful_exec_cache.specs.Cache.{IsIn}
use Rattle.stateful_exec_cache.specs.declared.cache.Cached.{Cached}
use Rattle.stateful_exec_cache.specs.declared.judgement.Judgement.{Judgement}
use Rattle.stateful_exec_cache.specs.declared.judgement.Judgement.TheVariants.{Valid, Invalid, Waits}
use Rattle.stateful_exec_cache.specs.declared.judgement.Judgement.TheVariants.{Open}

module _ {B U : Type 0} (header : Header B) (anchor : Anchor) (cache : List (Cached U))
    (stored : ℕ → Option (Named B)) (b : Named B) where
  -- no higher than the anchor, and decided by the anchor at its height and by the store below
  abbrev pub IsDecided : (Digest → Type 0) → Type 0
  IsDecided P =
      ((header.height b.block ≡ anchor.height.0) × P anchor.digest)
      ⊎
      ((header.height b.block < anchor.height.0)
      × ((c : Named B) × (stored (header.height b.block) ≡ Some c) × P c.digest))

  abbrev pub IsJudged : Judgement → Type 0
  IsJudged Valid = IsIn cache b.digest ⊎ IsDecided (λ d. d ≡ b.digest)
  IsJudged Invalid = (IsIn cache b.digest → ⊥) × IsDecided (λ d. d ≢ b.digest)
  IsJudged Waits =
      (IsIn cache b.digest → ⊥)
      × (header.height b.block < anchor.height.0)
      × (stored (header.height b.block) ≡ None)
  IsJudged Open = (IsIn cache b.digest → ⊥) × (anchor.height.0 < header.height b.block)

-- the block isn't answered at once
abbrev pub IsOpen : Judgement → Type 0
IsOpen Valid = ⊥
IsOpen Invalid = ⊥
IsOpen Waits = Unit {0}
IsOpen Open = Unit {0}
