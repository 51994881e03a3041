-- The finalized block of a height.
use Rattle.std.specs.Prelude.{◌≡◌, ℕ, ◌==◌, nat_lt, max, if◌then◌else◌, Option, Some, None, [], ◌∷◌}
use Rattle.std.specs.Prelude.{option_map}
use Rattle.stateful_base.specs.Names.{Named}
use Rattle.stateful_base.specs.declared.digest.Digest.{Digest}
use Rattle.stateful_base.specs.declared.anchor.Anchor.{Anchor}
use Rattle.stateful_history.specs.Setting.{Setting, height_of}
use Rattle.stateful_history.specs.Past.{Past, Made, Unmarked}
use Rattle.stateful_history.specs.Anchors.{tip_of, anchor_of}
use Rattle.stateful_history.specs.declared.mark.Mark.TheVariants.{Pruned}

module _ {B C I : Type 0} where
  -- the height below which the store's blocks were dropped, by prunes with a mark and by those
  -- without one
  abbrev pub pruned_below : Past B C I → ℕ
  pruned_below [] = 0
  pruned_below (Made (Pruned marshal target) ∷ p) = max marshal.0 (pruned_below p)
  pruned_below (Unmarked marshal ∷ p) = max marshal.0 (pruned_below p)
  pruned_below (item ∷ p) = pruned_below p

module _ {B C I S T : Type 0} where
  -- the digest of the store's block of this height, where it still has it
  abbrev pub kept_at : Setting B S T → Past B C I → ℕ → Option Digest
  kept_at s p n =
      if nat_lt n (pruned_below p) then None else option_map (λ b. b.digest) (s.stored n)

  -- the digest of the tip at its height, else of the anchor at its height, else of the store's
  -- block below the tip
  abbrev pub canonical_by : Setting B S T
      → Past B C I
      → ℕ
      → Option Anchor
      → Option Anchor
      → Option Digest
  canonical_by s p n None anchor = None
  canonical_by s p n (Some tip) None = None
  canonical_by s p n (Some tip) (Some anchor) =
      if tip.height.0 == n then Some tip.digest
      else (if anchor.height.0 == n then Some anchor.digest
      else (if nat_lt n tip.height.0 then kept_at s p n
      else None))

  -- the digest of the finalized block of this height, where there is one at this place
  abbrev pub canonical : Setting B S T → Past B C I → ℕ → Option Digest
  canonical s p n = canonical_by s p n (tip_of s.header p) (anchor_of s.header p)

  -- the block is the finalized one of its height
  abbrev pub IsCanonical : Setting B S T → Past B C I → Named B → Type 0
  IsCanonical s p b = canonical s p (height_of s b) ≡ Some b.digest
