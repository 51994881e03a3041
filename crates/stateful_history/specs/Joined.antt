-- Blocks that are joined to the anchor by matching steps, and the rule on true verdicts.
use Rattle.std.specs.Prelude.{◌≡◌, ◌≢◌, ◌⊎◌, true, Some, [], ◌∷◌, MatchOption}
use Rattle.stateful_base.specs.Names.{Named}
use Rattle.stateful_base.specs.declared.digest.Digest.{Digest}
use Rattle.stateful_base.specs.declared.anchor.Anchor.{Anchor}
use Rattle.stateful_history.specs.Setting.{Setting, parent_of, step_of}
use Rattle.stateful_history.specs.Past.{Past, Came, Made}
use Rattle.stateful_history.specs.Anchors.{applied, anchor_of, tip_of}
use Rattle.stateful_history.specs.Asked.{verified}
use Rattle.stateful_history.specs.Met.{Met}
use Rattle.stateful_history.specs.Known.{Known}
use Rattle.stateful_history.specs.States.{fold}
use Rattle.stateful_history.specs.Canonical.{IsCanonical}
use Rattle.stateful_history.specs.declared.event.Event.TheVariants.{Restart}
use Rattle.stateful_history.specs.declared.mark.Mark.{Mark}
use Rattle.stateful_history.specs.declared.mark.Mark.TheVariants.{Built, Opened, Converged, Verdict}

-- a block of this digest was built since the opening
abbrev pub WasBuilt : {B C I : Type 0} → Past B C I → Digest → Type 0
WasBuilt [] d = ⊥
WasBuilt (Came (Restart floor keep) ∷ p) d = ⊥
WasBuilt (Made (Opened anchor) ∷ p) d = ⊥
WasBuilt (Made (Converged anchor) ∷ p) d = ⊥
WasBuilt (Made (Built j t b) ∷ p) d = (b.digest ≡ d) ⊎ WasBuilt p d
WasBuilt (item ∷ p) d = WasBuilt p d

module _ {B S T : Type 0} (s : Setting B S T) where
  -- the block leads to states, and they are what it commits to
  pub record Matches (t : S) (b : Named B) (u : S) : Type 0 where
    pub step : step_of s t b ≡ Some u
    pub targets : s.target_of u ≡ s.meaning.targets b.block

  module _ {C I : Type 0} where
    -- the block is acceptable on the states before it, or was built here
    abbrev pub IsEarned : Past B C I → S → Named B → Type 0
    IsEarned p t b = (s.meaning.accept t b.block ≡ true) ⊎ WasBuilt p b.digest

    -- From the anchor with its states on, child by child through blocks of the history, matching
    -- steps lead to the block of a digest with its states; each of these blocks but the tip is
    -- acceptable too, or was built here.
    pub data Earns (p : Past B C I) (anchor tip : Digest) (now : S) : Digest → S → Type 0 where
      at_anchor : Earns p anchor tip now anchor now
      further : {b : Named B} {t u : S}
          → Earns p anchor tip now (parent_of s b) t
          → Met s p b
          → b.digest ≢ anchor
          → Matches t b u
          → (b.digest ≢ tip → IsEarned p t b)
          → Earns p anchor tip now b.digest u

    -- the block is known, and joined to the anchor by matching steps
    pub record Joined (base : S) (p : Past B C I) (d : Digest) : Type 0 where
      pub known : Known s p d
      pub anchor : Anchor
      pub tip : Anchor
      pub now : S
      pub state : S
      pub anchored : anchor_of s.header p ≡ Some anchor
      pub tipped : tip_of s.header p ≡ Some tip
      pub folded : fold s (Some base) (applied p) ≡ Some now
      pub path : Earns p anchor.digest tip.digest now d state

    -- a true verdict is on a block that is joined to the anchor, or is the finalized one of its
    -- height
    abbrev pub TrueIsEarned : S → Past B C I → Mark B → Type 0
    TrueIsEarned base p (Verdict t true) =
        MatchOption (verified t p) ⊥ (λ b. Joined base p b.digest ⊎ IsCanonical s p b)
    TrueIsEarned base p mark = Unit {0}
