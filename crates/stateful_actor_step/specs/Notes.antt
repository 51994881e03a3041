-- What becomes of the notes of an application over an event.
use Rattle.std.specs.Prelude.{◌≡◌, ◌++◌, ◌∷◌, ℕ, Bool, false, Option, List, []}
use Rattle.stateful_base.specs.Names.{Named}
use Rattle.stateful_history.specs.Finalizations.{applied_in}
use Rattle.stateful_history.specs.declared.entry.Entry.{Entry}
use Rattle.stateful_history.specs.declared.event.Event.{Event}
use Rattle.stateful_history.specs.declared.event.Event.TheVariants.{Restart}
use Rattle.stateful_history.specs.declared.mark.Mark.{Mark}
use Rattle.stateful_exec_model.specs.Workings.{Workings}
use Rattle.stateful_loop_model.specs.Intake.{Counts, TakesIn}
use Rattle.stateful_loop_model.specs.Moments.{Moment}
use Rattle.stateful_loop_model.specs.Noted.{noted_all, unobserved}
use Rattle.stateful_loop_model.specs.Rules.{Along}
use Rattle.stateful_loop_model.specs.declared.tables.Finalizing.{Finalizing}
use Rattle.stateful_actor_laws.specs.Entering.{Steps}

-- the blocks that were applied over a history, in their order
abbrev pub applied_along : {B C I : Type 0} → List (Entry B C I) → List (Named B)
applied_along [] = []
applied_along (entry ∷ entries) = applied_in entry.marks ++ applied_along entries

-- As long as the machine hasn't failed, the application has observed each block that was applied.
-- So it is between two events.
abbrev pub HasObserved : {B G : Type 0} → (failed : Bool) → Option (Finalizing B G) → Type 0
HasObserved failed front = failed ≡ false → unobserved front ≡ []

module _ {N B : Type 0} (noted : N → B → N) (before now : N) where
  -- the notes become `noted` along the blocks of the Applied marks that were made, in their order
  pub record NotesAlong (old new : List (Mark B)) : Type 0 where
    pub made : List (Mark B)
    pub marks_are : new ≡ old ++ made
    pub notes_are : now ≡ noted_all noted before (applied_in made)

  -- they become `noted` along some first ones, or none, of these blocks
  pub record NotesUpTo (applied : List (Named B)) : Type 0 where
    pub told : List (Named B)
    pub untold : List (Named B)
    pub parts : applied ≡ told ++ untold
    pub notes_are : now ≡ noted_all noted before told

module _ {B C I P R D H G U : Type 0} (w : Workings B C I P R D H G U) where
  -- Up to this moment these marks were made. The notes become `noted` along some first ones, or
  -- none, of these blocks: the one that the application hadn't observed before, and then those of
  -- the Applied marks among them.
  pub record NotesReached {N : Type 0} (noted : N → B → N) (before now : N) (m reached : Moment w)
      : Type 0 where
    pub made : List (Mark B)
    pub marks_are : reached.marks ≡ m.marks ++ made
    pub up_to : NotesUpTo noted before now (unobserved m.loop.front ++ applied_in made)

  module _ (stored : ℕ → Option (Named B)) (provider : P)
      {N : Type 0} (noted : N → B → N) (before now : N) where
    -- Rules went, one after another, and at the moment to which they led one that could go didn't.
    pub record NotesSettling (m : Moment w) : Type 0 where
      pub reached : Moment w
      pub along : Along w stored provider m reached
      pub notes : NotesReached noted before now m reached

    -- An event that isn't a restart wasn't taken in, and the notes stay; or it was taken in, rules
    -- went, and then it was refused.
    pub data NotesPlay (counts : Counts R D H) (event : Event B C I) (m : Moment w) : Type 0 where
      taking : now ≡ before → NotesPlay counts event m
      going : {taken reached : Moment w} → TakesIn w stored counts m taken event
          → Along w stored provider taken reached
          → NotesReached noted before now m reached → NotesPlay counts event m

    -- where a restart is refused the notes stay
    abbrev pub NotesRefused : Counts R D H → Event B C I → Moment w → Type 0
    NotesRefused counts (Restart floor keep) m = now ≡ before
    NotesRefused counts event m = NotesPlay counts event m

  -- After a history and a refused event the notes are `noted` along the blocks that were applied
  -- over the history, and some first ones, or none, of those that the event applied.
  pub record NotesAfter (stored : ℕ → Option (Named B)) (provider : P) (counts : Counts R D H)
      {N : Type 0} (noted : N → B → N) (start now : N) (first : Moment w)
      (history : List (Entry B C I)) (event : Event B C I) : Type 0 where
    pub old : Moment w
    pub steps : Steps w stored provider counts [] first history old
    pub refused : NotesRefused stored provider noted
        (noted_all noted start (applied_along history)) now counts event old
