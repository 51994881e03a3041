-- The finalized blocks that wait stay in their order over a history from a new machine on.
use Rattle.std.proofs.Common.{◌≡◌, ◌∷◌, [], ℕ, Bool, true, false, List, Option, refl, sym, ◌∙◌, subst, true≢false}
use Rattle.stateful_base.specs.Names.{Named}
use Rattle.stateful_db.specs.Laws.{Laws}
use Rattle.stateful_history.specs.Met.{TrueNames}
use Rattle.stateful_history.specs.Past.{Past, Came, after_entry, after_all}
use Rattle.stateful_history.specs.Honest.{StoresHeights, StoresFinalized}
use Rattle.stateful_history.specs.declared.entry.Entry.{Entry}
use Rattle.stateful_history.specs.declared.mark.Mark.{Mark}
use Rattle.stateful_history.proofs.Marks.{TrueNames-before_all}
use Rattle.stateful_exec_model.specs.Workings.{Workings}
use Rattle.stateful_actor_register.specs.declared.register.Register.{Register}
use Rattle.stateful_exec_laws.specs.Building.{BuildsTakeTurns}
use Rattle.stateful_exec_laws.specs.Fronting.{RunsTakeTurns}
use Rattle.stateful_exec_laws.specs.Setting.{setting}
use Rattle.stateful_exec_laws.specs.Storing.{IsStoredNow}
use Rattle.stateful_loop_model.specs.Intake.{Counts}
use Rattle.stateful_loop_model.specs.Moments.{Moment}
use Rattle.stateful_actor_laws.specs.Entering.{Steps}
use Rattle.stateful_actor_laws.specs.Machine.{IsNew}
use Rattle.stateful_actor_laws.specs.Stands.{StandsAt}
use Rattle.stateful_actor_laws.specs.StepBehind.{StepBehind, EachStands}
use Rattle.stateful_actor_laws.proofs.steps.StepsStand.{StandsAt-new}
use Rattle.stateful_actor_laws.proofs.steps.StepStands.{step-behind}
use Rattle.stateful_actor_laws.proofs.steps.Stepping.{IsStoredNow-step}
use Rattle.stateful_actor_laws.proofs.steps.StoresBefore.{StoresFinalized-before_marks, StoresFinalized-before_all}
use Rattle.stateful_actor_laws.specs.Ahead.{IsAheadLawfully}
use Rattle.stateful_actor_laws.proofs.ahead.Steps.{ahead-step}

module _ {B C I P R D H G U : Type 0} (w : Workings B C I P R D H G U) (stored : ℕ → Option (Named B)) (base : w.States) where
  -- at a new machine nothing waits
  pub ahead-new : (failed : Bool) (register : Register) (m : Moment w) → IsNew w failed register m → (p : Past B C I) → IsAheadLawfully w stored base p m
  ahead-new failed register m new p up since = absurd (true≢false (sym up ∙ new.down))

module _ {B C I P R D H G U : Type 0} (w : Workings B C I P R D H G U) (laws : Laws w.kind) (stored stored_now : ℕ → Option (Named B))
    (counts : Counts R D H) (provider : P) (runs_cost : RunsTakeTurns w) (builds_cost : BuildsTakeTurns w)
    (heights : StoresHeights w.header stored) where
  -- at the end the machine stands for the past with the entries, the finalized blocks that wait are in their order, and the store
  -- has what it was handed
  pub record StandsAhead (q : Past B C I) (last : Moment w) (base : w.States) : Type 0 where
    pub stands : StandsAt w stored base q last
    pub ahead : IsAheadLawfully w stored base q last
    pub stored_is : IsStoredNow stored q stored_now

  pub steps-ahead : (base : w.States) (p : Past B C I) (old : Moment w) (entries : List (Entry B C I)) (last : Moment w)
      → IsStoredNow stored p stored_now → StandsAt w stored base p old → IsAheadLawfully w stored base p old
      → Steps w stored_now provider counts p old entries last
      → TrueNames (setting w stored) (after_all p entries) → StoresFinalized w.header stored (after_all p entries)
      → EachStands w stored (StandsAhead (after_all p entries) last) base p entries
  steps-ahead base p old [] last stored_is s a steps names stores =
      subst (λ (n : Moment w). StandsAhead p n base) (sym steps) (record { stands = s; ahead = a; stored_is = stored_is })
  steps-ahead base p old (entry ∷ entries) last stored_is s a (may_come_is, register, registered, new, marks_are, step, rest) names stores = (
    new,
    marks_are,
    b,
    steps-ahead b.base_behind (after_entry p entry.event entry.marks) (record new { marks = [] }) entries last
        (subst (λ (ms : List (Mark B)). IsStoredNow stored (after_entry p entry.event ms) stored_now) marks_are
        (IsStoredNow-step w stored base p entry.event new stored_now stored_is b))
        (subst (λ (ms : List (Mark B)). StandsAt w stored b.base_behind (after_entry p entry.event ms) (record new { marks = [] })) marks_are b.stands)
        (subst (λ (ms : List (Mark B)). IsAheadLawfully w stored b.base_behind (after_entry p entry.event ms) (record new { marks = [] })) marks_are ahead)
        rest names stores,
  )
    where
      names_here : TrueNames (setting w stored) (after_entry p entry.event new.marks)
      names_here = subst (λ (ms : List (Mark B)). TrueNames (setting w stored) (after_entry p entry.event ms)) (sym marks_are)
          (TrueNames-before_all (setting w stored) (after_entry p entry.event entry.marks) entries names)

      stores_here : StoresFinalized w.header stored (Came entry.event ∷ p)
      stores_here = StoresFinalized-before_marks w.header stored (Came entry.event ∷ p) entry.marks
          (StoresFinalized-before_all w.header stored (after_entry p entry.event entry.marks) entries stores)

      b : StepBehind w stored base p entry.event new
      b = step-behind w laws stored stored_now counts provider runs_cost builds_cost heights base p stored_is entry.event register old new registered
          s.restart s.past (λ other. s) may_come_is step names_here stores_here

      ahead : IsAheadLawfully w stored b.base_behind (after_entry p entry.event new.marks) (record new { marks = [] })
      ahead = ahead-step w laws stored stored_now counts provider runs_cost builds_cost base p stored_is entry.event register old new may_come_is stores_here
          (λ other. s) step names_here b a
