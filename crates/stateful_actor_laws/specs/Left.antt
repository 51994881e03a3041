-- What an event that was refused leaves of the databases.
use Rattle.std.specs.Prelude.{◌≡◌, ◌∷◌, [], ℕ, false, Option, List}
use Rattle.stateful_base.specs.Names.{Named}
use Rattle.stateful_history.specs.Met.{TrueNames}
use Rattle.stateful_history.specs.Past.{Past, Came, after_entry, after_all}
use Rattle.stateful_history.specs.Refusals.{HoldsFurther}
use Rattle.stateful_history.specs.Honest.{HasHonestStore}
use Rattle.stateful_history.specs.declared.entry.Entry.{Entry}
use Rattle.stateful_history.specs.declared.event.Event.{Event}
use Rattle.stateful_history.specs.declared.mark.Mark.{Mark}
use Rattle.stateful_exec_model.specs.Workings.{Workings}
use Rattle.stateful_actor_register.specs.declared.register.Register.{Register}
use Rattle.stateful_exec_laws.specs.Setting.{setting}
use Rattle.stateful_exec_laws.specs.Storing.{IsStoredNow}
use Rattle.stateful_loop_model.specs.Intake.{Counts, TakesIn}
use Rattle.stateful_loop_model.specs.Left.{KeepsStates, LeavesRule}
use Rattle.stateful_loop_model.specs.Moments.{Moment}
use Rattle.stateful_loop_model.specs.Rules.{Along}
use Rattle.stateful_actor_laws.specs.Stands.{Stands}
use Rattle.stateful_actor_laws.specs.StepBehind.{EachStands}

module _ {B C I P R D H G U : Type 0} (w : Workings B C I P R D H G U)
    (stored_now : ℕ → Option (Named B)) (provider : P) where
  -- Rules went, one after another, and at the moment to which they led one that could go didn't, or
  -- memory ran out.
  pub record LeavesSettling (m : Moment w) (new : w.kind.Members) : Type 0 where
    pub reached : Moment w
    pub along : Along w stored_now provider m reached
    pub left : LeavesRule w reached new

  module _ (counts : Counts R D H) (event : Event B C I) where
    -- An event that isn't a restart wasn't taken in, and each database that is here has its part of
    -- whatever states it had; or it was taken in, with these marks, and then it was refused.
    pub data LeavesPlay (m : Moment w) (new : w.kind.Members) (made : List (Mark B)) : Type 0 where
      taking : KeepsStates w m.members new → made ≡ m.marks → LeavesPlay m new made
      going : {taken : Moment w} → TakesIn w stored_now counts m taken event → made ≡ taken.marks
          → LeavesSettling taken new → LeavesPlay m new made

    -- What such an event left, with the marks that it made where it was taken in, if it was.
    -- Whatever past the machine stood for, where names are true with the event and these marks, and
    -- the store is honest, each database that is here has its part of the fold over what was
    -- applied, and over further blocks, if any.
    pub record LeavesFurther (register : Register) (m : Moment w) (new : w.kind.Members)
        : Type 0 where
      pub made : List (Mark B)
      pub left : LeavesPlay m new made
      pub holds : (stored : ℕ → Option (Named B))
          (base : w.States)
          (p : Past B C I)
          → Stands w stored base p false register m
          → IsStoredNow stored p stored_now
          → TrueNames (setting w stored) (after_entry p event made)
          → HasHonestStore w.header stored (Came event ∷ p)
          → HoldsFurther (setting w stored) w.kind base p event new

    -- The same after a history that began with a new machine, of the states on which it is based
    -- at last.
    pub record LeavesBehind (history : List (Entry B C I)) (m : Moment w) (new : w.kind.Members)
        : Type 0 where
      pub made : List (Mark B)
      pub left : LeavesPlay m new made
      pub holds : (base : w.States)
          → TrueNames (setting w stored_now) (after_entry (after_all [] history) event made)
          → HasHonestStore w.header stored_now (Came event ∷ after_all [] history)
          → EachStands w stored_now
          (λ last. HoldsFurther (setting w stored_now) w.kind last (after_all [] history) event new)
          base [] history
