-- Finalizations: in order, each once, and what they leave with the application.
use Rattle.std.specs.Prelude.{◌≡◌, ◌<◌, ◌≤◌, ◌+◌, ℕ, ◌==◌, if◌then◌else◌, Option, Some, None, List}
use Rattle.std.specs.Prelude.{[], ◌∷◌, MatchOption}
use Rattle.stateful_base.specs.Names.{Header, Named}
use Rattle.stateful_base.specs.declared.anchor.Anchor.{Anchor}
use Rattle.stateful_history.specs.Past.{Past, Came, Made}
use Rattle.stateful_history.specs.Anchors.{tip_of}
use Rattle.stateful_history.specs.Opening.{opening}
use Rattle.stateful_history.specs.Durable.{durable, WasApplied}
use Rattle.stateful_history.specs.declared.event.Event.TheVariants.{Finalized, Restart}
use Rattle.stateful_history.specs.declared.mark.Mark.{Mark}
use Rattle.stateful_history.specs.declared.mark.Mark.TheVariants.{Opened, Converged, Began, Applied}
use Rattle.stateful_history.specs.declared.mark.Mark.TheVariants.{Acknowledged}

-- the block is one above this anchor, and its child
abbrev pub IsChildOf : {B : Type 0} → Header B → Anchor → Named B → Type 0
IsChildOf header anchor b =
    (header.height b.block ≡ anchor.height.0 + 1) × (header.parent b.block ≡ anchor.digest)

module _ {B C I : Type 0} where
  -- the block whose finalization began last since the opening, as long as it isn't applied
  abbrev pub begun : Past B C I → Option (Named B)
  begun [] = None
  begun (Came (Restart floor keep) ∷ p) = None
  begun (Made (Opened anchor) ∷ p) = None
  begun (Made (Converged anchor) ∷ p) = None
  begun (Made (Began t b) ∷ p) = Some b
  begun (Made (Applied b) ∷ p) = None
  begun (item ∷ p) = begun p

  -- the block that was finalized under this ticket since the last restart
  abbrev pub finalized_since : ℕ → Past B C I → Option (Named B)
  finalized_since t [] = None
  finalized_since t (Came (Restart floor keep) ∷ p) = None
  finalized_since t (Came (Finalized u b) ∷ p) = if t == u then Some b else finalized_since t p
  finalized_since t (item ∷ p) = finalized_since t p

  -- The finalization that begins is of the block of a live ticket's event, which is the next child
  -- of the tip. What is applied is the block whose finalization began, and it is applied once.
  abbrev pub FinalizesInOrder : Header B → Past B C I → Mark B → Type 0
  FinalizesInOrder header p (Began t b) =
      (finalized_since t p ≡ Some b)
      × (begun p ≡ None)
      × MatchOption (tip_of header p) ⊥ (λ tip. IsChildOf header tip b)
  FinalizesInOrder header p (Applied b) = begun p ≡ Some b
  FinalizesInOrder header p mark = Unit {0}

  -- what is acknowledged above the opening was applied, and is durable
  abbrev pub AcknowledgedIsApplied : Header B → Past B C I → Mark B → Type 0
  AcknowledgedIsApplied header p (Acknowledged t height) = MatchOption (opening p) (Unit {0})
      (λ anchor. anchor.height.0 < height.0 → WasApplied header height.0 p × (height.0 ≤ durable p))
  AcknowledgedIsApplied header p mark = Unit {0}

-- the blocks that these marks say were applied, in their order
abbrev pub applied_in : {B : Type 0} → List (Mark B) → List (Named B)
applied_in [] = []
applied_in (Applied b ∷ marks) = b ∷ applied_in marks
applied_in (mark ∷ marks) = applied_in marks
