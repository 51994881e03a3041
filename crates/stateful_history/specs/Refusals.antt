-- What the databases hold behind an event that was refused.
use Rattle.std.specs.Prelude.{◌≡◌, ◌⊎◌, ◌++◌, ◌<◌, ℕ, List, [], ◌∷◌, All, MatchOption}
use Rattle.stateful_base.specs.Names.{Header, Named}
use Rattle.stateful_base.specs.Anchor.{anchor_by}
use Rattle.stateful_base.specs.declared.anchor.Anchor.{Anchor}
use Rattle.stateful_db.specs.Databases.{Databases}
use Rattle.stateful_history.specs.Setting.{Setting}
use Rattle.stateful_history.specs.Past.{Past, Came}
use Rattle.stateful_history.specs.Anchors.{applied, anchor_of}
use Rattle.stateful_history.specs.Holding.{HasFold}
use Rattle.stateful_history.specs.Finalizations.{IsChildOf}
use Rattle.stateful_history.specs.declared.event.Event.{Event}
use Rattle.stateful_history.specs.declared.event.Event.TheVariants.{Finalized, Restart}

-- each of these blocks is one above the one before it and its child, and the first one is so of the
-- anchor
abbrev pub Climbs : {B : Type 0} → Header B → Anchor → List (Named B) → Type 0
Climbs header anchor [] = Unit {0}
Climbs header anchor (b ∷ bs) = IsChildOf header anchor b × Climbs header (anchor_by header b) bs

module _ {B C I : Type 0} where
  -- the block was finalized since the last restart
  abbrev pub WasFinalized : Past B C I → Named B → Type 0
  WasFinalized [] b = ⊥
  WasFinalized (Came (Restart floor keep) ∷ p) b = ⊥
  WasFinalized (Came (Finalized t c) ∷ p) b = (b ≡ c) ⊎ WasFinalized p b
  WasFinalized (item ∷ p) b = WasFinalized p b

  -- blocks that were finalized since the last restart, one child behind another from the anchor on
  pub record AreFurther (header : Header B) (p : Past B C I)
      (blocks : List (Named B)) : Type 0 where
    pub finalized : All (WasFinalized p) blocks
    pub climb : MatchOption (anchor_of header p) ⊥ (λ anchor. Climbs header anchor blocks)

module _ {B C I Ids S T : Type 0} (s : Setting B S T) (d : Databases Ids S T) where
  -- Each database that is here has its part of the fold over what was applied, and over further
  -- blocks, if any: the refused event may have applied some before its error.
  abbrev pub HoldsFurther : S → Past B C I → Event B C I → d.Members → Type 0
  HoldsFurther base p event m = (i : ℕ) → i < d.count
      → (blocks : List (Named B))
      × AreFurther s.header (Came event ∷ p) blocks
      × HasFold s d base (applied p ++ blocks) m i
