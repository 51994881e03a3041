-- What consensus and the block store are trusted with.
use Rattle.std.specs.Prelude.{◌≡◌, ℕ, Option, Some, List, [], ◌∷◌}
use Rattle.stateful_base.specs.Names.{Header, Named}
use Rattle.stateful_base.specs.declared.block.Ancestry.{Ancestry}
use Rattle.stateful_history.specs.Setting.{Setting, parent_of}
use Rattle.stateful_history.specs.Past.{Past, Came}
use Rattle.stateful_history.specs.Asked.{asked_digest}
use Rattle.stateful_history.specs.declared.event.Event.TheVariants.{Verify, Prepare, Propose}
use Rattle.stateful_history.specs.declared.event.Event.TheVariants.{Fetched, Finalized}

module _ {B S T : Type 0} (s : Setting B S T) where
  -- each block of the list is the parent of the one before it
  abbrev pub Descends : Named B → List (Named B) → Type 0
  Descends b [] = Unit {0}
  Descends b (x ∷ xs) = (x.digest ≡ parent_of s b) × Descends x xs

  abbrev pub IsLinked : Ancestry B → Type 0
  IsLinked ancestry = Descends ancestry.first ancestry.rest

  -- in every ancestry each block is the parent of the one before it
  abbrev pub IsHonest : {C I : Type 0} → Past B C I → Type 0
  IsHonest [] = Unit {0}
  IsHonest (Came (Verify t ancestry) ∷ p) = IsLinked ancestry × IsHonest p
  IsHonest (Came (Prepare t context ancestry input) ∷ p) = IsLinked ancestry × IsHonest p
  IsHonest (Came (Propose t context ancestry input) ∷ p) = IsLinked ancestry × IsHonest p
  IsHonest (item ∷ p) = IsHonest p

-- each fetch was answered with the asked block, or with none
abbrev pub IsAnswered : {B C I : Type 0} → Past B C I → Type 0
IsAnswered [] = Unit {0}
IsAnswered (Came (Fetched f (Some b)) ∷ p) = (asked_digest f p ≡ Some b.digest) × IsAnswered p
IsAnswered (item ∷ p) = IsAnswered p

module _ {B : Type 0} (header : Header B) (stored : ℕ → Option (Named B)) where
  -- what the store has at a height is a block of that height
  abbrev pub StoresHeights : Type 0
  StoresHeights = (n : ℕ) (b : Named B) → stored n ≡ Some b → header.height b.block ≡ n

  -- where the store has a block of this one's height, it has this one
  abbrev pub StoresAs : Named B → Type 0
  StoresAs b = (c : Named B) → stored (header.height b.block) ≡ Some c → c.digest ≡ b.digest

  -- so it is with each block that came as finalized
  abbrev pub StoresFinalized : {C I : Type 0} → Past B C I → Type 0
  StoresFinalized [] = Unit {0}
  StoresFinalized (Came (Finalized t b) ∷ p) = StoresAs b × StoresFinalized p
  StoresFinalized (item ∷ p) = StoresFinalized p

  -- The store is honest: what it has at a height is a block of that height, and the one that came
  -- as finalized, if one came.
  pub record HasHonestStore {C I : Type 0} (p : Past B C I) : Type 0 where
    pub heights : StoresHeights
    pub finalized : StoresFinalized p
