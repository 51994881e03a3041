-- Openings: where the databases were opened or synced to, and whether the machine is down, syncs or
-- hands over.
use Rattle.std.specs.Prelude.{◌≡◌, Bool, true, false, if◌then◌else◌, Option, Some, None, List, []}
use Rattle.std.specs.Prelude.{◌∷◌}
use Rattle.stateful_base.specs.declared.anchor.Anchor.{Anchor}
use Rattle.stateful_history.specs.Past.{Past, Item, Came, Made}
use Rattle.stateful_history.specs.declared.event.Event.TheVariants.{Restart}
use Rattle.stateful_history.specs.declared.mark.Mark.{Mark}
use Rattle.stateful_history.specs.declared.mark.Mark.TheVariants.{Opened, Converged, Completed}
use Rattle.stateful_history.specs.declared.mark.Mark.TheVariants.{Stopped}

module _ {B C I : Type 0} where
  -- the last opening, by files or by a sync, that follows the last restart
  abbrev pub opening : Past B C I → Option Anchor
  opening [] = None
  opening (Came (Restart floor keep) ∷ p) = None
  opening (Made (Opened anchor) ∷ p) = Some anchor
  opening (Made (Converged anchor) ∷ p) = Some anchor
  opening (item ∷ p) = opening p

  -- before the first restart, and from a stop to the next restart
  abbrev pub is_down : Past B C I → Bool
  is_down [] = true
  is_down (Came (Restart floor keep) ∷ p) = false
  is_down (Made Stopped ∷ p) = true
  is_down (item ∷ p) = is_down p

  -- the machine is up, and syncs
  abbrev pub IsSyncing : Past B C I → Type 0
  IsSyncing p = (is_down p ≡ false) × (opening p ≡ None)

  -- a handover goes on: the databases were synced, and the sync isn't recorded as complete
  abbrev pub is_handing_over : Past B C I → Bool
  is_handing_over [] = false
  is_handing_over (Came (Restart floor keep) ∷ p) = false
  is_handing_over (Made (Opened anchor) ∷ p) = false
  is_handing_over (Made (Converged anchor) ∷ p) = true
  is_handing_over (Made (Completed height) ∷ p) = false
  is_handing_over (item ∷ p) = is_handing_over p

  -- the item is no start and no opening
  abbrev pub StartsNone : Item B C I → Type 0
  StartsNone (Came (Restart floor keep)) = ⊥
  StartsNone (Made (Opened anchor)) = ⊥
  StartsNone (Made (Converged anchor)) = ⊥
  StartsNone item = Unit {0}

-- some of these marks is an opening
abbrev pub opens : {B : Type 0} → List (Mark B) → Bool
opens [] = false
opens (Opened anchor ∷ marks) = true
opens (Converged anchor ∷ marks) = true
opens (mark ∷ marks) = opens marks

-- what the databases hold, where they are here
abbrev pub held_or : {I S : Type 0} → S → Option (I × S) → S
held_or base None = base
held_or base (Some point) = point.1

-- The states that a history is based on after an entry: where it has an opening, what the databases
-- hold at its end, and else the states before. No block is applied in an entry with an opening.
abbrev pub base_after : {B I S : Type 0} → S → List (Mark B) → Option (I × S) → S
base_after base marks point = if opens marks then held_or base point else base
