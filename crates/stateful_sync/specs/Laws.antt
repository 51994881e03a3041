-- What holds of a coordinator whatever calls come.
use Rattle.std.specs.Prelude.{◌≡◌, ℕ, ◌<◌, ◌≤◌, Option, Some, None, List, [], ◌∷◌, ◌++◌, length}
use Rattle.std.specs.Prelude.{slice_get, All, Contains}
use Rattle.std.specs.List.{flat_map}
use Rattle.stateful_base.specs.declared.anchor.Anchor.{Anchor}
use Rattle.stateful_sync.specs.Coordinator.{Coordination, Call, record_reached, record_tip_update}
use Rattle.stateful_sync.specs.Coordinator.{mark_reached_same_target, height_of, tip_of}
use Rattle.stateful_sync.specs.Coordinator.{next_generation, AllReached, Steps}
use Rattle.stateful_sync.specs.declared.tip.Tip.{Tip}
use Rattle.stateful_sync.specs.declared.action.DbSyncState.TheVariants.{Seeking}
use Rattle.stateful_sync.specs.declared.action.Generation.{Generation}
use Rattle.stateful_sync.specs.declared.action.CoordinatorAction.{CoordinatorAction}
use Rattle.stateful_sync.specs.declared.action.CoordinatorAction.TheVariants.{Dispatch, Converged}

-- one call, with its answer and the state behind it
pub record Turn (T : Type 0) : Type 0 where
  pub call : Call T
  pub answer : Option (CoordinatorAction T)
  pub after : Coordination T

-- the last of a first one and of these
abbrev pub last_of : {A : Type 0} → A → List A → A
last_of x [] = x
last_of x (y ∷ ys) = last_of y ys

module _ {T : Type 0} where
  -- calls that keep their conditions, one after another, from one state to another
  abbrev pub Runs : Coordination T → List (Turn T) → Coordination T → Type 0
  Runs s [] last = last ≡ s
  Runs s (turn ∷ turns) last = Steps s turn.call turn.answer turn.after × Runs turn.after turns last

  -- the tip that a call records
  abbrev pub recorded : Call T → List (Tip T)
  recorded (record_tip_update anchor targets) = tip_of anchor targets ∷ []
  recorded call = []

  -- the generation that an answer dispatches
  abbrev pub dispatched : Option (CoordinatorAction T) → List (Generation T)
  dispatched (Some (Dispatch number anchor targets)) =
      record { number = number; tip = tip_of anchor targets } ∷ []
  dispatched answer = []

  -- the tips that these calls recorded, and the generations that they dispatched
  abbrev pub tips : List (Turn T) → List (Tip T)
  tips turns = flat_map (λ turn. recorded turn.call) turns

  abbrev pub dispatches : List (Turn T) → List (Generation T)
  dispatches turns = flat_map (λ turn. dispatched turn.answer) turns

  -- A dispatch behind another, where these tips were recorded before it: the same generation again;
  -- or the next one, of the highest of these tips, which is above the one before.
  pub data Follows (before : List (Tip T)) (last : Generation T) : Generation T → Type 0 where
    again : Follows before last last
    further : {tip : Tip T}
        → Contains before tip
        → All (λ other. height_of other ≤ height_of tip) before
        → height_of last.tip < height_of tip
        → Follows before last (next_generation last tip)

  -- this turn stands among these, behind those before it
  pub record StandsBehind (turns before : List (Turn T)) (turn : Turn T) : Type 0 where
    pub behind : List (Turn T)
    pub place : turns ≡ before ++ turn ∷ behind

-- From the generation that every database seeks at the start:
module _ {T : Type 0} (start : Generation T) where
  -- the generation that was dispatched last
  abbrev pub last_dispatch : List (Turn T) → Generation T
  last_dispatch turns = last_of start (dispatches turns)

  -- a generation was given to the database of this number: it's that of the start, or it was
  -- dispatched to it
  pub data IsGiven (turns : List (Turn T)) (index g : ℕ) : Type 0 where
    at_start : g ≡ start.number → IsGiven turns index g
    by_dispatch : {before : List (Turn T)} {turn : Turn T} {tip : Tip T}
        → StandsBehind turns before turn
        → dispatched turn.answer ≡ record { number = g; tip = tip } ∷ []
        → slice_get turn.after.databases index ≡ Some (Seeking g)
        → IsGiven turns index g

  -- A database has reached a generation: it was said to have, after that was given to it; or it had
  -- reached an earlier one, and was said to have the same target in this one.
  pub data HasReached (index : ℕ) : List (Turn T) → ℕ → Type 0 where
    by_itself : {turns before : List (Turn T)} {turn : Turn T} {g : ℕ}
        → StandsBehind turns before turn
        → turn.call ≡ record_reached index g
        → IsGiven before index g
        → HasReached index turns g
    by_target : {turns before : List (Turn T)} {turn : Turn T} {g h : ℕ}
        → StandsBehind turns before turn
        → turn.call ≡ mark_reached_same_target index g
        → HasReached index before h
        → HasReached index turns g

  -- so many databases have converged, at the end of these turns, to what was dispatched last
  pub record HasConverged (count : ℕ) (turns : List (Turn T)) (tip : Tip T) : Type 0 where
    pub last : (last_dispatch turns).tip ≡ tip
    -- which is at or above the start and all recorded tips
    pub above_start : height_of start.tip ≤ height_of tip
    pub above_tips : All (λ other. height_of other ≤ height_of tip) (tips turns)
    -- each of them was given this one generation, and has reached it
    pub each : (index : ℕ) → index < count → HasReached index turns (last_dispatch turns).number

  -- Whatever calls came since the coordinator was made of so many databases:
  pub record Lawful (count : ℕ) (turns : List (Turn T)) : Type 0 where
    -- until a tip is recorded no generation is dispatched but that of the start
    pub first : tips turns ≡ [] → dispatches turns ≡ []
    -- between two recorded tips, and behind the last one, three are at most
    pub few : (before between behind : List (Turn T))
        → turns ≡ before ++ between ++ behind
        → tips between ≡ []
        → length (dispatches between) ≤ 3
    -- each follows the last one, so that generations and heights only grow
    pub grows : (before : List (Turn T)) (turn : Turn T) (g : Generation T)
        → StandsBehind turns before turn
        → dispatched turn.answer ≡ g ∷ []
        → Follows (tips before) (last_dispatch before) g
    -- where they have converged, they have, and no tip is pending
    pub converged : (before : List (Turn T)) (turn : Turn T) (anchor : Anchor) (targets : T)
        → StandsBehind turns before turn
        → turn.answer ≡ Some (Converged anchor targets)
        → HasConverged count before (tip_of anchor targets)
        × AllReached turn.after (last_dispatch before).number
        × (turn.after.pending ≡ None)

  -- whatever calls follow
  abbrev pub KeepsLaws : ℕ → Coordination T → Type 0
  KeepsLaws count first = (turns : List (Turn T)) (last : Coordination T)
      → Runs first turns last
      → Lawful count turns
