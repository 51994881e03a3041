-- The states of blocks: what was applied is folded, and blocks above it follow child by child.
use Rattle.std.specs.Prelude.{◌≡◌, ◌≢◌, Option, Some, None, List, [], ◌∷◌}
use Rattle.stateful_base.specs.Names.{Named}
use Rattle.stateful_base.specs.declared.digest.Digest.{Digest}
use Rattle.stateful_base.specs.declared.anchor.Anchor.{Anchor}
use Rattle.stateful_history.specs.Setting.{Setting, parent_of, step_of}
use Rattle.stateful_history.specs.Past.{Past}
use Rattle.stateful_history.specs.Anchors.{applied, anchor_of}
use Rattle.stateful_history.specs.Met.{Met}

module _ {B S T : Type 0} (s : Setting B S T) where
  -- the states after these blocks, one step after another
  abbrev pub fold : Option S → List (Named B) → Option S
  fold t [] = t
  fold None (b ∷ bs) = None
  fold (Some t) (b ∷ bs) = fold (step_of s t b) bs

  -- the states before and after each of these blocks
  abbrev pub prefixes : Option S → List (Named B) → List S
  prefixes None bs = []
  prefixes (Some t) [] = t ∷ []
  prefixes (Some t) (b ∷ bs) = t ∷ prefixes (step_of s t b) bs

  -- From a block with this digest and these states on, child by child through such blocks, steps
  -- lead to the block of a digest with its states.
  pub data Reaches (IsMet : Named B → Type 0) (from : Digest) (at : S) : Digest → S → Type 0 where
    here : Reaches IsMet from at from at
    further : {b : Named B} {t u : S}
        → Reaches IsMet from at (parent_of s b) t
        → IsMet b
        → b.digest ≢ from
        → step_of s t b ≡ Some u
        → Reaches IsMet from at b.digest u

  -- the states after the block of this digest, at a place: steps lead to it from the anchor, over
  -- what was applied
  pub record HasState {C I : Type 0} (base : S) (p : Past B C I) (d : Digest) (t : S) : Type 0 where
    pub anchor : Anchor
    pub now : S
    pub anchored : anchor_of s.header p ≡ Some anchor
    pub folded : fold (Some base) (applied p) ≡ Some now
    pub reached : Reaches (Met s p) anchor.digest now d t
