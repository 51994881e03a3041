-- What was applied since the opening, the anchor and the tip.
use Rattle.std.specs.Prelude.{Option, Some, None, List, [], ◌∷◌, ◌++◌}
use Rattle.stateful_base.specs.Names.{Header, Named}
use Rattle.stateful_base.specs.Anchor.{anchor_by}
use Rattle.stateful_base.specs.declared.anchor.Anchor.{Anchor}
use Rattle.stateful_history.specs.Past.{Past, Came, Made}
use Rattle.stateful_history.specs.declared.event.Event.TheVariants.{Restart}
use Rattle.stateful_history.specs.declared.mark.Mark.TheVariants.{Opened, Converged, Began, Applied}

module _ {B C I : Type 0} where
  -- the blocks applied since the opening, the oldest first
  abbrev pub applied : Past B C I → List (Named B)
  applied [] = []
  applied (Came (Restart floor keep) ∷ p) = []
  applied (Made (Opened anchor) ∷ p) = []
  applied (Made (Converged anchor) ∷ p) = []
  applied (Made (Applied b) ∷ p) = applied p ++ b ∷ []
  applied (item ∷ p) = applied p

  -- the last block applied since the opening, else the opening's block
  abbrev pub anchor_of : Header B → Past B C I → Option Anchor
  anchor_of header [] = None
  anchor_of header (Came (Restart floor keep) ∷ p) = None
  anchor_of header (Made (Opened anchor) ∷ p) = Some anchor
  anchor_of header (Made (Converged anchor) ∷ p) = Some anchor
  anchor_of header (Made (Applied b) ∷ p) = Some (anchor_by header b)
  anchor_of header (item ∷ p) = anchor_of header p

  -- the block of the last finalization that began since the opening, else the opening's block
  abbrev pub tip_of : Header B → Past B C I → Option Anchor
  tip_of header [] = None
  tip_of header (Came (Restart floor keep) ∷ p) = None
  tip_of header (Made (Opened anchor) ∷ p) = Some anchor
  tip_of header (Made (Converged anchor) ∷ p) = Some anchor
  tip_of header (Made (Began ticket b) ∷ p) = Some (anchor_by header b)
  tip_of header (item ∷ p) = tip_of header p
