-- A history from the start of a new machine on: each entry keeps the rules, and at its end the machine stands for it.
use Rattle.std.proofs.Common.{◌≡◌, ◌∷◌, [], ℕ, Bool, false, nat_lt, List, Option, refl, subst, arith}
use Rattle.std.proofs.lemmas.Grind.{common_steps}
use Rattle.stateful_base.specs.Names.{Named}
use Rattle.stateful_db.specs.Laws.{Laws}
use Rattle.stateful_history.specs.Holding.{Holds}
use Rattle.stateful_history.specs.Met.{TrueNames}
use Rattle.stateful_history.specs.Past.{Past, after_entry, after_all}
use Rattle.stateful_history.specs.Honest.{HasHonestStore}
use Rattle.stateful_history.specs.declared.entry.Entry.{Entry}
use Rattle.stateful_exec_model.specs.Workings.{Workings}
use Rattle.stateful_actor_register.specs.Register.{RegisterStands}
use Rattle.stateful_actor_register.specs.declared.register.Register.{Register}
use Rattle.stateful_exec_laws.specs.Building.{BuildsTakeTurns}
use Rattle.stateful_exec_laws.specs.Fronting.{RunsTakeTurns}
use Rattle.stateful_exec_laws.specs.Setting.{setting}
use Rattle.stateful_exec_laws.specs.Storing.{IsStoredNow}
use Rattle.stateful_loop_model.specs.Intake.{Counts}
use Rattle.stateful_loop_model.specs.Moments.{Moment}
use Rattle.stateful_actor_laws.specs.Entering.{Steps}
use Rattle.stateful_actor_laws.specs.Machine.{numbered, IsNew}
use Rattle.stateful_actor_laws.specs.Stands.{StandsAt}
use Rattle.stateful_actor_laws.specs.StepBehind.{EachStands, StandsAndHolds}
use Rattle.stateful_actor_laws.proofs.steps.StepsStand.{StandsAt-new, steps-stand}

at_least : (n : ℕ) → nat_lt n 0 ≡ false
at_least n = grind (arith, common_steps)

-- the store at the start is what it was handed
pub IsStoredNow-new : {B : Type 0} (C I : Type 0) (stored : ℕ → Option (Named B)) → IsStoredNow {B = B} {C = C} {I = I} stored [] stored
IsStoredNow-new C I stored h = rw (at_least h) refl

module _ {B C I P R D H G U : Type 0} (w : Workings B C I P R D H G U) (stored : ℕ → Option (Named B)) where
  -- what holds at the end leads to something else that does
  pub EachStands-last : (Last Next : w.States → Type 0) → ((base : w.States) → Last base → Next base)
      → (base : w.States) (p : Past B C I) (entries : List (Entry B C I)) → EachStands w stored Last base p entries
      → EachStands w stored Next base p entries
  EachStands-last Last Next leads base p [] last = leads base last
  EachStands-last Last Next leads base p (entry ∷ entries) (new, marks_are, b, rest) =
      (new, marks_are, b, EachStands-last Last Next leads b.base_behind (after_entry p entry.event entry.marks) entries rest)

  -- and what doesn't speak of the states on which it is based holds
  pub EachStands-constant : (X : Type 0) (base : w.States) (p : Past B C I) (entries : List (Entry B C I)) → EachStands w stored (λ last. X) base p entries → X
  EachStands-constant X base p [] x = x
  EachStands-constant X base p (entry ∷ entries) (new, marks_are, b, rest) =
      EachStands-constant X b.base_behind (after_entry p entry.event entry.marks) entries rest

-- Names are true with the whole history, and the store is honest.
pub history-stands : {B C I P R D H G U : Type 0} (w : Workings B C I P R D H G U) (laws : Laws w.kind) (stored : ℕ → Option (Named B))
    (counts : Counts R D H) (provider : P) → RunsTakeTurns w → BuildsTakeTurns w
    → (failed : Bool) (register : Register) (first last : Moment w) (history : List (Entry B C I))
    → IsNew w failed register first → first.marks ≡ [] → w.kind.NoneAway first.members
    → Steps w stored provider counts [] first history last
    → TrueNames (setting w stored) (after_all [] history) → HasHonestStore w.header stored (after_all [] history)
    → (base : w.States)
    → EachStands w stored (λ base. StandsAt w stored base (after_all [] history) last
    × Holds (setting w stored) w.kind base (after_all [] history) last.members) base [] history
history-stands {C = C} {I = I} w laws stored counts provider runs_cost builds_cost failed register first last history new
    unmarked away steps names honest base =
    steps-stand w laws stored stored counts provider runs_cost builds_cost honest.heights base [] first history last (IsStoredNow-new C I stored)
    (StandsAt-new w stored base failed register first new unmarked away) tt steps names honest.finalized

module _ {B C I P R D H G U : Type 0} (w : Workings B C I P R D H G U) (laws : Laws w.kind) (stored : ℕ → Option (Named B))
    (counts : Counts R D H) (provider : P) (runs_cost : RunsTakeTurns w) (builds_cost : BuildsTakeTurns w)
    (failed : Bool) (register : Register) (first last : Moment w) (history : List (Entry B C I))
    (new : IsNew w failed register first) (unmarked : first.marks ≡ []) (away : w.kind.NoneAway first.members)
    (steps : Steps w stored provider counts [] first history last)
    (names : TrueNames (setting w stored) (after_all [] history)) (honest : HasHonestStore w.header stored (after_all [] history))
    (base : w.States) where
  each_stands : EachStands w stored (λ base. StandsAt w stored base (after_all [] history) last
      × Holds (setting w stored) w.kind base (after_all [] history) last.members) base [] history
  each_stands = history-stands w laws stored counts provider runs_cost builds_cost failed register first last history new unmarked away steps
      names honest base

  -- with the register that stands for it
  pub history-registered : (now_failed : Bool) (now : Register) → RegisterStands (numbered w.kind.count) (after_all [] history) now
      → EachStands w stored (λ base. StandsAndHolds w stored base (after_all [] history) now_failed now last) base [] history
  history-registered now_failed now registered = EachStands-last w stored _
      (λ base. StandsAndHolds w stored base (after_all [] history) now_failed now last)
      (λ base at. record {
        stands = record { registered = registered; restart = at.0.restart; past = at.0.past; at = λ working. at.0 };
        holds = λ working. at.1;
      }) base [] history each_stands

  -- and what a machine that stands so leaves
  pub history-leaves : (now_failed : Bool) (now : Register) → RegisterStands (numbered w.kind.count) (after_all [] history) now
      → (Left : w.States → Type 0)
      → ((base : w.States) → StandsAndHolds w stored base (after_all [] history) now_failed now last → Left base)
      → EachStands w stored Left base [] history
  history-leaves now_failed now registered Left leaves =
      EachStands-last w stored _ Left leaves base [] history (history-registered now_failed now registered)
