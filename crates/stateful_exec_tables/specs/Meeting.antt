-- What a request meets on its path.
use Rattle.std.specs.Prelude.{◌≡◌, ◌≢◌, ◌+◌, ◌++◌, ◌∷◌, [], List, All}
use Rattle.stateful_base.specs.Names.{Header, Named}
use Rattle.stateful_exec_pause.specs.Boundary.{step_by, IsRetained}
use Rattle.stateful_exec_walk.specs.Path.{Path, IsLastOf}
use Rattle.stateful_exec_tables.specs.declared.state.Tables.{Tables}
use Rattle.stateful_exec_pause.specs.declared.pause.Pause.{Pause}
use Rattle.stateful_exec_pause.specs.declared.pause.Pause.TheVariants.{Finalizing}
use Rattle.stateful_exec_tables.specs.declared.met.Met.{Met}
use Rattle.stateful_exec_tables.specs.Tables.{Knows, HasRun, RunsNone}
use Rattle.stateful_exec_tables.specs.declared.met.Met.TheVariants as met

-- the first of a list, or another where it is empty
abbrev pub first_or : {T : Type 0} → T → List T → T
first_or other [] = other
first_or other (x ∷ xs) = x

-- where a finalization goes on, a block is run on only where it descends from the finalized one
abbrev pub GoesOn : {B : Type 0} → Header B → Pause → Named B → Type 0
GoesOn header (Finalizing boundary) b = IsRetained boundary (step_by header b)
GoesOn header pause b = Unit {0}

module _ {B C I R U : Type 0} (header : Header B) (v : Tables B C I R U) where
  -- a block that needs no run
  abbrev pub IsPassed : Named B → Type 0
  IsPassed b = GoesOn header v.pause b × Knows v b.digest

  -- the last blocks of a path are passed
  pub record HasPassed (path now : Path B) : Type 0 where
    pub passed : List (Named B)
    pub parts : path.blocks ≡ now.blocks ++ passed
    pub each : All IsPassed passed
    pub parent_is : now.parent ≡ first_or path.parent passed

  -- the next block of a path that isn't passed, with its parent and with those that are left behind
  -- it
  pub record Reaches (path : Path B) (left : List (Named B)) (b parent : Named B) : Type 0 where
    pub passed : List (Named B)
    pub parts : path.blocks ≡ left ++ b ∷ passed
    pub each : All IsPassed passed
    pub parent_is : parent ≡ first_or path.parent passed

  -- what a block is, on its parent: known; or of a live run; or still to be run; or its parent
  -- isn't known
  abbrev pub JoinsAs : (b parent : Named B) → Met B → Type 0
  JoinsAs b parent met.Known = Knows v b.digest
  JoinsAs b parent (met.Run j) = (Knows v b.digest → ⊥) × HasRun v b.digest j
  JoinsAs b parent (met.Unrun c p) =
      (Knows v b.digest → ⊥) × RunsNone v b.digest × Knows v parent.digest × (c ≡ b) × (p ≡ parent)
  JoinsAs b parent met.Missed =
      (Knows v b.digest → ⊥) × RunsNone v b.digest × (Knows v parent.digest → ⊥)
  JoinsAs b parent other = ⊥

  -- what a path meets next: its end; or a block that doesn't go on over a finalization; or another
  -- one, which it passes
  abbrev pub Meets : (old new : Path B) → Met B → Type 0
  Meets old new met.Arrived = (old.blocks ≡ []) × (new ≡ old)
  Meets old new met.Left =
      ((b : Named B) × IsLastOf old.blocks b × (GoesOn header v.pause b → ⊥)) × (new ≡ old)
  Meets old new found =
      (old.blocks ≡ new.blocks ++ new.parent ∷ [])
      × GoesOn header v.pause new.parent
      × JoinsAs new.parent old.parent found

  -- a block that is to be run is met on a known parent
  abbrev pub MeetsOnKnown : Met B → Type 0
  MeetsOnKnown (met.Unrun b parent) = Knows v parent.digest
  MeetsOnKnown other = Unit {0}

  -- what a path meets behind what is passed: its end; or a block that doesn't go on over a
  -- finalization; or one that isn't known
  pub data Skips (old new : Path B) : Met B → Type 0 where
    to_end : All IsPassed old.blocks → Skips old new met.Arrived
    to_left : {left : List (Named B)} {b parent : Named B}
        → Reaches old left b parent
        → (GoesOn header v.pause b → ⊥)
        → Skips old new met.Left
    to_met : {parent : Named B} {found : Met B}
        → Reaches old new.blocks new.parent parent
        → GoesOn header v.pause new.parent
        → found ≢ met.Known
        → JoinsAs new.parent parent found → Skips old new found
