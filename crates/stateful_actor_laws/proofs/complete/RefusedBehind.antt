-- What the databases hold after a history, and an event that was refused behind it.
use Rattle.std.proofs.Common.{◌≡◌, ◌∷◌, [], ℕ, Bool, false, List, Option, subst}
use Rattle.stateful_base.specs.Names.{Named}
use Rattle.stateful_db.specs.Laws.{Laws}
use Rattle.stateful_history.specs.Past.{Past, Came, after_entry, after_all}
use Rattle.stateful_history.specs.Refusals.{HoldsFurther}
use Rattle.stateful_history.specs.Honest.{HasHonestStore}
use Rattle.stateful_history.specs.declared.entry.Entry.{Entry}
use Rattle.stateful_history.specs.declared.event.Event.{Event}
use Rattle.stateful_history.specs.declared.mark.Mark.{Mark}
use Rattle.stateful_history.proofs.Marks.{TrueNames-before_entry}
use Rattle.stateful_exec_model.specs.Workings.{Workings}
use Rattle.stateful_actor_register.specs.Register.{RegisterStands}
use Rattle.stateful_actor_register.specs.declared.register.Register.{Register}
use Rattle.stateful_exec_laws.specs.Building.{BuildsTakeTurns}
use Rattle.stateful_exec_laws.specs.Fronting.{RunsTakeTurns}
use Rattle.stateful_exec_laws.specs.Setting.{setting}
use Rattle.stateful_exec_laws.specs.Storing.{IsStoredNow}
use Rattle.stateful_loop_model.specs.Intake.{Counts}
use Rattle.stateful_loop_model.specs.Moments.{Moment}
use Rattle.stateful_actor_laws.specs.Entering.{Steps}
use Rattle.stateful_actor_laws.specs.Left.{LeavesFurther, LeavesBehind}
use Rattle.stateful_actor_laws.specs.Machine.{numbered, IsNew}
use Rattle.stateful_actor_laws.specs.StepBehind.{EachStands}
use Rattle.stateful_actor_laws.proofs.steps.HistoryStands.{IsStoredNow-new, history-registered, EachStands-last}
use Rattle.stateful_actor_laws.proofs.steps.Stepping.{IsStoredNow-step}
use Rattle.stateful_actor_laws.proofs.steps.StoresBefore.{StoresFinalized-before_item}

module _ {B C I P R D H G U : Type 0} (w : Workings B C I P R D H G U) (stored stored_now : ℕ → Option (Named B)) where
  -- entries drop no block of the store
  each-stored : (Last : w.States → Type 0) (base : w.States) (p : Past B C I) (entries : List (Entry B C I))
      → EachStands w stored Last base p entries → IsStoredNow stored p stored_now → IsStoredNow stored (after_all p entries) stored_now
  each-stored Last base p [] each is = is
  each-stored Last base p (entry ∷ entries) (new, marks_are, b, rest) is =
      each-stored Last b.base_behind (after_entry p entry.event entry.marks) entries rest
      (subst (λ (ms : List (Mark B)). IsStoredNow stored (after_entry p entry.event ms) stored_now) marks_are
      (IsStoredNow-step w stored base p entry.event new stored_now is b))

module _ {B C I P R D H G U : Type 0} (w : Workings B C I P R D H G U) (laws : Laws w.kind) (stored : ℕ → Option (Named B))
    (counts : Counts R D H) (provider : P) (runs_cost : RunsTakeTurns w) (builds_cost : BuildsTakeTurns w)
    (failed : Bool) (register : Register) (first last : Moment w) (history : List (Entry B C I))
    (blank : IsNew w failed register first) (unmarked : first.marks ≡ []) (away : w.kind.NoneAway first.members)
    (steps : Steps w stored provider counts [] first history last) where
  -- what an event left after any past is what it left after this history
  pub leaves-behind : (now : Register) → RegisterStands (numbered w.kind.count) (after_all [] history) now
      → (event : Event B C I) (new : w.kind.Members) → LeavesFurther w stored provider counts event now last new
      → LeavesBehind w stored provider counts event history last new
  leaves-behind now registered event new l = record {
    made = l.made;
    left = l.left;
    holds = λ base names honest.
        let before : HasHonestStore w.header stored (after_all [] history) = record {
          heights = honest.heights;
          finalized = StoresFinalized-before_item w.header stored (Came event) (after_all [] history) honest.finalized;
        } in
        let each = history-registered w laws stored counts provider runs_cost builds_cost failed register first last history blank unmarked away steps
        (TrueNames-before_entry (setting w stored) (after_all [] history) event l.made names) before base false now registered in
        let stored_is : IsStoredNow stored (after_all [] history) stored =
        each-stored w stored stored _ base [] history each (IsStoredNow-new C I stored) in
        EachStands-last w stored _ (λ at. HoldsFurther (setting w stored) w.kind at (after_all [] history) event new)
        (λ at s. l.holds stored at (after_all [] history) s.stands stored_is names honest)
        base [] history each;
  }
