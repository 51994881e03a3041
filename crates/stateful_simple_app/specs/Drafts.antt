-- Drafts of states: what a batch holds that may still change.
use Rattle.std.specs.Prelude.{◌≡◌, ℕ, List, ◌∷◌, Option, None, Some, MatchOption}
use Rattle.stateful_db.specs.Chain.{IsPoint}
use Rattle.stateful_db.specs.Disk.{point}
use Rattle.stateful_db_plain.specs.Whole.{Whole}
use Rattle.stateful_db_plain.specs.Stored.{standing_of}
use Rattle.stateful_db_plain.specs.Shown.{DraftShows}
use Rattle.stateful_simple_app.specs.Rules.{Entries, after}
use Rattle.stateful_simple_app.specs.declared.draft.Draft.{Draft}

-- where a draft stands: the id of its batch, over a chain whose first point is its parent
pub record Place : Type 0 where
  pub own : ℕ
  pub at : ℕ × Whole
  pub below : List (ℕ × Whole)

-- the chain of a batch that shows this state
abbrev pub chain_of : Place → Whole → List (ℕ × Whole)
chain_of place whole = (place.own, whole) ∷ place.at ∷ place.below

-- the draft has these entries, and its database is at a point of the chain on which it stands
pub record Holds (draft : Draft) (place : Place) (entries : Entries) : Type 0 where
  pub shows : DraftShows draft.batch (chain_of place (after place.at.1 entries))
  pub among : IsPoint (point (standing_of draft.database.now)) (place.at ∷ place.below)

-- a value that shows what there is, or none where there is nothing
abbrev pub Becomes : {A S : Type 0} → (A → S → Type 0) → Option A → Option S → Type 0
Becomes Shows None there = there ≡ None
Becomes Shows (Some value) there = MatchOption there ⊥ (Shows value)
