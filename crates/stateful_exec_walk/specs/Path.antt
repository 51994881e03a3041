-- The ancestors of a block, as far as they are missing.
use Rattle.std.specs.Prelude.{◌≡◌, ◌≤◌, ◌<◌, ◌+◌, ◌++◌, ◌∷◌, [], List, All}
use Rattle.stateful_base.specs.Names.{Header, Named}
use Rattle.stateful_base.specs.declared.anchor.Anchor.{Anchor}
use Rattle.stateful_exec_cache.specs.Cache.{IsAtHand}
use Rattle.stateful_exec_cache.specs.declared.cache.Cached.{Cached}

-- blocks that have to be run, the newest first, and the parent of the last of them
pub record Path (B : Type 0) : Type 0 where
  pub blocks : List (Named B)
  pub parent : Named B

-- the element stands at the end of the list
pub record IsLastOf {T : Type 0} (items : List T) (item : T) : Type 0 where
  pub earlier : List T
  pub parts : items ≡ earlier ++ item ∷ []

module _ {B : Type 0} (header : Header B) where
  -- the block is one above the other, and its child
  abbrev pub IsOneAbove : Named B → Named B → Type 0
  IsOneAbove b parent =
      (parent.digest ≡ header.parent b.block)
      × (header.height b.block ≡ header.height parent.block + 1)

  -- each block is one above the next one, and its child
  abbrev pub Descends : List (Named B) → Type 0
  Descends [] = Unit {0}
  Descends (b ∷ []) = Unit {0}
  Descends (b ∷ parent ∷ bs) = IsOneAbove b parent × Descends (parent ∷ bs)

module _ {B U : Type 0} (header : Header B) (anchor : Anchor) (cache : List (Cached U)) where
  -- not at hand, and above the anchor
  pub record IsMissing (b : Named B) : Type 0 where
    pub unknown : IsAtHand anchor cache b.digest → ⊥
    pub above : anchor.height.0 < header.height b.block

  -- not at hand, and no higher than the anchor
  pub record IsCovered (b : Named B) : Type 0 where
    pub unknown : IsAtHand anchor cache b.digest → ⊥
    pub low : header.height b.block ≤ anchor.height.0

  -- the blocks begin with missing ones, each one above the next one and its child, down to this one
  pub record Leads (blocks missing : List (Named B)) («end» : Named B)
      (rest : List (Named B)) : Type 0 where
    pub parts : blocks ≡ missing ++ «end» ∷ rest
    pub each : All IsMissing missing
    pub descends : Descends header (missing ++ «end» ∷ [])
