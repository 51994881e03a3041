-- The blocks that are known at a place: those whose states are at hand.
use Rattle.std.specs.Prelude.{◌≡◌, Some, ◌∷◌, MatchOption}
use Rattle.stateful_base.specs.Names.{Named}
use Rattle.stateful_base.specs.Round.{IsLater}
use Rattle.stateful_base.specs.declared.digest.Digest.{Digest}
use Rattle.stateful_base.specs.declared.anchor.Anchor.{Anchor}
use Rattle.stateful_history.specs.Setting.{Setting, parent_of, round_of}
use Rattle.stateful_history.specs.Past.{Past, Item}
use Rattle.stateful_history.specs.Opening.{StartsNone}
use Rattle.stateful_history.specs.Anchors.{tip_of}
use Rattle.stateful_history.specs.Asked.{kept_by}
use Rattle.stateful_history.specs.Met.{Met}

module _ {B C I S T : Type 0} (s : Setting B S T) where
  -- the block's round is later than the tip's
  abbrev pub IsPastTip : Past B C I → Named B → Type 0
  IsPastTip p b = MatchOption (tip_of s.header p) ⊥ (λ tip. IsLater tip.round (round_of s b))

  -- The block of this digest is known: the tip is; and so is a block from the item on that keeps
  -- it, as long as its round is later than the tip's and its parent is known.
  pub data Known : Past B C I → Digest → Type 0 where
    is_tip : {p : Past B C I} {tip : Anchor} → tip_of s.header p ≡ Some tip → Known p tip.digest
    kept : {p : Past B C I} {item : Item B C I} {b : Named B}
        → Met s (item ∷ p) b
        → kept_by p item ≡ Some b.digest
        → IsPastTip (item ∷ p) b
        → Known (item ∷ p) (parent_of s b)
        → Known (item ∷ p) b.digest
    stays : {p : Past B C I} {item : Item B C I} {b : Named B}
        → StartsNone item
        → Met s p b
        → Known p b.digest
        → IsPastTip p b
        → IsPastTip (item ∷ p) b
        → Known (item ∷ p) (parent_of s b)
        → Known (item ∷ p) b.digest

  abbrev pub IsUnknown : Past B C I → Digest → Type 0
  IsUnknown p d = Known p d → ⊥
