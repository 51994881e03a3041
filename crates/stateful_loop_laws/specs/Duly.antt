-- The rules on marks of jobs, of answers to builds, of withdrawn fetches and of finalizations.
use Rattle.std.specs.Prelude.{◌≡◌, ℕ, Option, List, ◌++◌, All, Contains}
use Rattle.stateful_base.specs.Names.{Named}
use Rattle.stateful_history.specs.Answers.{AnsweredIsBuilt}
use Rattle.stateful_history.specs.Fetches.{WithdrawnHasCause}
use Rattle.stateful_history.specs.Finalizations.{FinalizesInOrder}
use Rattle.stateful_history.specs.Past.{Past, EachMark, EachNext}
use Rattle.stateful_history.specs.Prunes.{PruneRule}
use Rattle.stateful_history.specs.Runs.{EndsAsItsKind, CancelledHasCause, BuildIsAnswered}
use Rattle.stateful_history.specs.Syncs.{SyncsInPlace}
use Rattle.stateful_history.specs.Telling.{telling_of}
use Rattle.stateful_history.specs.declared.event.Event.{Event}
use Rattle.stateful_history.specs.declared.mark.Mark.{Mark}
use Rattle.stateful_exec_model.specs.Workings.{Workings}
use Rattle.stateful_exec_laws.specs.Setting.{setting}
use Rattle.stateful_loop_model.specs.Moments.{Moment}

-- the marks are among all of them
abbrev pub AreAmong : {B : Type 0} → List (Mark B) → List (Mark B) → Type 0
AreAmong all marks = All (λ mark. Contains all mark) marks

module _ {B C I P R D H G U : Type 0} (w : Workings B C I P R D H G U)
    (stored : ℕ → Option (Named B)) (base : w.States)
    (event : Event B C I) where
  -- In an entry of this event with all these marks: finalizations begin and are applied in order,
  -- requests to build are answered with what was built, jobs end as their kind does, and cancelled
  -- ones have a cause, as has each withdrawn fetch, whatever is to be pruned; and syncs are in
  -- their place.
  abbrev pub IsDulySaid : List (Mark B) → Past B C I → Mark B → Type 0
  IsDulySaid all p mark =
      FinalizesInOrder w.header p mark
      × AnsweredIsBuilt (setting w stored) (telling_of w.works) base p mark
      × EndsAsItsKind event p mark
      × CancelledHasCause (setting w stored) event all p mark
      × ((rule : Option (PruneRule w.Targets))
      → WithdrawnHasCause (setting w stored) rule event all p mark)
      × SyncsInPlace w.header p mark

  -- From one moment to a later one some marks are made, which keep these rules in an entry that has
  -- them; and each build that ends among them is answered at once.
  pub record DulyBehind (p : Past B C I) (m now : Moment w) : Type 0 where
    pub more : List (Mark B)
    pub marks_are : now.marks ≡ m.marks ++ more
    pub each : (all : List (Mark B)) → AreAmong all more → EachMark (IsDulySaid all) p more
    pub answered : EachNext BuildIsAnswered p more
