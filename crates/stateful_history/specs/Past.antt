-- The past at a place: the events and the marks before it, the newest first.
use Rattle.std.specs.Prelude.{ℕ, Option, Some, None, List, [], ◌∷◌}
use Rattle.stateful_base.specs.declared.number.Height.{Height}
use Rattle.stateful_history.specs.declared.event.Event.{Event}
use Rattle.stateful_history.specs.declared.mark.Mark.{Mark}
use Rattle.stateful_history.specs.declared.entry.Entry.{Entry}

-- An event came, or a mark was made. Further items tell what no entry does. An event that was
-- refused had pruned the store below this height before, without a mark; it had pruned databases,
-- some at least, to the block of this height; it was a restart at this height. And from here on
-- these databases are live for progress.
pub data Item (B C I : Type 0) : Type 0 where
  Came : Event B C I → Item B C I
  Made : Mark B → Item B C I
  Unmarked : Height → Item B C I
  Cut : Height → Item B C I
  Tried : Height → Item B C I
  Seeking : List ℕ → Item B C I

abbrev pub Past : Type 0 → Type 0 → Type 0 → Type 0
Past B C I = List (Item B C I)

module _ {B C I : Type 0} where
  -- the past after these marks
  abbrev pub after : Past B C I → List (Mark B) → Past B C I
  after p [] = p
  after p (mark ∷ marks) = after (Made mark ∷ p) marks

  -- the past after an event and its marks
  abbrev pub after_entry : Past B C I → Event B C I → List (Mark B) → Past B C I
  after_entry p event marks = after (Came event ∷ p) marks

  -- the past after these entries
  abbrev pub after_all : Past B C I → List (Entry B C I) → Past B C I
  after_all p [] = p
  after_all p (entry ∷ entries) = after_all (after_entry p entry.event entry.marks) entries

  -- the rule holds of each of these marks, at its place
  abbrev pub EachMark : (Past B C I → Mark B → Type 0) → Past B C I → List (Mark B) → Type 0
  EachMark Rule p [] = Unit {0}
  EachMark Rule p (mark ∷ marks) = Rule p mark × EachMark Rule (Made mark ∷ p) marks

  -- the rule holds of each mark of these entries, at its place
  abbrev pub EachEntry : (Past B C I → Mark B → Type 0) → Past B C I → List (Entry B C I) → Type 0
  EachEntry Rule p [] = Unit {0}
  EachEntry Rule p (entry ∷ entries) =
      EachMark Rule (Came entry.event ∷ p) entry.marks
      × EachEntry Rule (after_entry p entry.event entry.marks) entries

  -- the rule holds of each of these marks, at its place and with the mark behind it
  abbrev pub EachNext : (Past B C I → Mark B → Option (Mark B) → Type 0)
      → Past B C I
      → List (Mark B)
      → Type 0
  EachNext Rule p [] = Unit {0}
  EachNext Rule p (mark ∷ []) = Rule p mark None
  EachNext Rule p (mark ∷ next ∷ marks) =
      Rule p mark (Some next) × EachNext Rule (Made mark ∷ p) (next ∷ marks)

  -- the event of the entry at this place
  abbrev pub event_of : Past B C I → Option (Event B C I)
  event_of [] = None
  event_of (Came event ∷ p) = Some event
  event_of (item ∷ p) = event_of p
