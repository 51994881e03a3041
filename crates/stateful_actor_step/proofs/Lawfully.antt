-- Where a lawful event other than a restart is refused the reason lies outside of the machine.
use Rattle.std.proofs.Common.{◌≡◌, ◌⊎◌, inl, inr, ◌<◌, ◌≤◌, ◌^◌, ◌∷◌, [], ℕ, Bool, true, false, not, Option, List, refl, sym, ap, ◌∙◌, subst, true≢false, arith}
use Rattle.stateful_base.specs.Causes.{Rose}
use Rattle.stateful_base.specs.Names.{Named}
use Rattle.stateful_db.specs.Laws.{Laws}
use Rattle.stateful_history.specs.Live.{may_come, names_live}
use Rattle.stateful_history.specs.Met.{TrueNames}
use Rattle.stateful_history.specs.Opening.{is_down, base_after}
use Rattle.stateful_history.specs.Past.{Past, Came, after_entry, after_all}
use Rattle.stateful_history.specs.Stops.{IsRestart}
use Rattle.stateful_history.specs.Honest.{StoresFinalized, HasHonestStore}
use Rattle.stateful_history.specs.declared.entry.Entry.{Entry}
use Rattle.stateful_history.specs.declared.event.Event.{Event}
use Rattle.stateful_history.specs.declared.event.Event.TheVariants.{Restart}
use Rattle.stateful_exec_model.specs.Workings.{Workings}
use Rattle.stateful_actor_register.specs.Register.{RegisterStands}
use Rattle.stateful_actor_register.specs.declared.register.Register.{Register}
use Rattle.stateful_exec_laws.specs.Building.{BuildsTakeTurns}
use Rattle.stateful_exec_laws.specs.Fronting.{RunsTakeTurns}
use Rattle.stateful_exec_laws.specs.Setting.{setting}
use Rattle.stateful_exec_laws.specs.Storing.{IsStoredNow}
use Rattle.stateful_loop_laws.specs.Stands.{IsUpAt}
use Rattle.stateful_loop_laws.proofs.events.TakenIn.{may_come-live}
use Rattle.stateful_loop_model.specs.Intake.{Counts}
use Rattle.stateful_loop_model.specs.Moments.{Moment}
use Rattle.stateful_loop_model.specs.declared.error.StepError.{StepError}
use Rattle.stateful_loop_model.specs.declared.error.StepError.TheVariants.{OutOfMemory, Failed, BadEvent, Exhausted, Application, DatabaseFault}
use Rattle.stateful_actor_laws.specs.Entering.{Steps}
use Rattle.stateful_actor_laws.specs.Machine.{numbered, is_restart, IsNew}
use Rattle.stateful_actor_laws.specs.Stands.{StandsAt, Stands}
use Rattle.stateful_actor_laws.specs.Steps.{IsStep}
use Rattle.stateful_actor_laws.specs.StepBehind.{StepBehind, EachStands}
use Rattle.stateful_actor_laws.proofs.work.LiveFlushes.{numbered_le, names_live-more}
use Rattle.stateful_actor_laws.proofs.steps.HistoryStands.{IsStoredNow-new, EachStands-last}
use Rattle.stateful_actor_laws.proofs.steps.StepsStand.{StandsAt-new}
use Rattle.stateful_actor_laws.proofs.steps.StoresBefore.{StoresFinalized-before_item, StoresFinalized-before_marks}
use Rattle.stateful_actor_laws.proofs.steps.StepStands.{step-behind}
use Rattle.stateful_actor_laws.proofs.steps.Stepping.{may_come-up}
use Rattle.stateful_actor_laws.specs.Ahead.{IsAhead, IsAheadLawfully}
use Rattle.stateful_actor_laws.specs.Completeness.{ComesLawfully}
use Rattle.stateful_actor_laws.specs.Outside.{IsOutside}
use Rattle.stateful_actor_laws.proofs.ahead.History.{ahead-new, StandsAhead, steps-ahead}
use Rattle.stateful_actor_laws.proofs.ahead.Steps.{ahead-step}
use Rattle.stateful_actor_laws.proofs.complete.Completeness.{intake-outside, going-outside}
use Rattle.stateful_actor_step.proofs.Counts.{HasNotFallen-further}
use Rattle.stateful_actor_step.specs.Faults.{Tally, FaultsPlay, memory, taking, going, FaultsStep, IsCause, failed_before, unlawful, fault}
use Rattle.stateful_actor_step.specs.Faults as cause

outside_memory : (before now : ℕ → ℕ) (e : StepError) → e ≡ OutOfMemory → IsOutside before now e
outside_memory before now e is = subst (λ (x : StepError). IsOutside before now x) (sym is) tt

-- a count that rose from a later moment on rose from an earlier one on
outside_earlier : (before later now : ℕ → ℕ) → ((i : ℕ) → before i ≤ later i) → (e : StepError) → IsOutside later now e → IsOutside before now e
outside_earlier before later now fewer OutOfMemory h = tt
outside_earlier before later now fewer Exhausted h = tt
outside_earlier before later now fewer Application h = tt
outside_earlier before later now fewer (DatabaseFault i call) h = let less = fewer i in omega (arith)
outside_earlier before later now fewer e h = absurd h

-- an event that is no restart
pub isnt_restart : {B C I : Type 0} (event : Event B C I) → is_restart event ≡ false → IsRestart event → ⊥
isnt_restart (Restart floor keep) is h = true≢false is
isnt_restart event is h = h

module _ {B C I P R D H G U : Type 0} (w : Workings B C I P R D H G U) (laws : Laws w.kind) (stored stored_now : ℕ → Option (Named B))
    (counts : Counts R D H) (provider : P) (runs_cost : RunsTakeTurns w) (builds_cost : BuildsTakeTurns w) (few : w.kind.count < 2 ^ 64) (base : w.States)
    (p : Past B C I) (stored_is : IsStoredNow stored p stored_now) (event : Event B C I) (other : is_restart event ≡ false)
    (honest : HasHonestStore w.header stored (Came event ∷ p)) (m : Moment w) (s : StandsAt w stored base p m) (a : IsAheadLawfully w stored base p m)
    (lawful : ComesLawfully w stored base p stored_now counts m event) where
  on : IsRestart event → ⊥
  on = isnt_restart event other

  up : m.loop.up ≡ true
  up = s.up_is ∙ s.open_is ∙ ap (λ x. not x) (may_come-up (numbered w.kind.count) p event on lawful.lawful.may_come)

  h : IsUpAt w stored base p m
  h = (s.up up).0

  ahead : IsAhead w stored base p m
  ahead = a up lawful.since

  names : TrueNames (setting w stored) p
  names x y mx my same = lawful.named x y (inr mx) (inr my) same

  live : names_live w.kind.count p event ≡ true
  live = names_live-more (numbered w.kind.count) w.kind.count (numbered_le w.kind.count) p event
      (may_come-live (numbered w.kind.count) p event on lawful.lawful.may_come)

  plays-outside : (start «end» : Tally) (new : w.kind.Members) (e : StepError) → FaultsPlay w stored_now provider counts start «end» new m event e
      → IsOutside start.databases «end».databases e
  plays-outside start last new e (memory is) = outside_memory start.databases last.databases e is
  plays-outside start last new e (taking f) =
      intake-outside w laws few stored base p m h ahead names stored_now counts (Rose start.application last.application) start.databases last.databases new
      event live lawful.lawful.true_of lawful.built e f
  plays-outside start last new e (going {taken = taken} {between = between} takes later f) =
      outside_earlier start.databases f.before.databases last.databases (HasNotFallen-further start between f.before later f.later).databases e
      (going-outside w laws few stored base p m h ahead names stored_now counts stored_is provider runs_cost builds_cost event on lawful.named honest.finalized
      lawful.lawful up (s.up up).1 live taken f.reached (lawful.taken taken takes) takes f.along
      (Rose f.before.application last.application) f.before.databases last.databases new e f.fault)

  step_outside : (v : Event B C I) → v ≡ event → is_restart v ≡ false → (start «end» : Tally) (new : w.kind.Members) (e : StepError)
      → FaultsStep w stored_now provider counts start «end» new m v e → IsOutside start.databases «end».databases e
  step_outside (Restart floor keep) is none start last new e f = absurd (true≢false none)
  step_outside v is none start last new e f =
      plays-outside start last new e (subst (λ (x : Event B C I). FaultsPlay w stored_now provider counts start last new m x e) is f)

  -- whatever the cause
  pub cause-outside : (register : Register) → RegisterStands (numbered w.kind.count) p register → (start «end» : Tally) (new : w.kind.Members) (e : StepError)
      → IsCause w stored_now provider counts false register event start «end» new m e → IsOutside start.databases «end».databases e
  cause-outside register registered start last new e (cause.memory is) =
      outside_memory start.databases last.databases e is
  cause-outside register registered start last new e (failed_before is failed none) = absurd (true≢false (sym failed))
  cause-outside register registered start last new e (unlawful is never) =
      absurd (true≢false (sym lawful.lawful.may_come ∙ never p registered (s.up_is ∙ s.open_is)))
  cause-outside register registered start last new e (fault may f) = step_outside event refl other start last new e f

module _ {B C I P R D H G U : Type 0} (w : Workings B C I P R D H G U) (laws : Laws w.kind) (stored : ℕ → Option (Named B))
    (counts : Counts R D H) (provider : P) (runs_cost : RunsTakeTurns w) (builds_cost : BuildsTakeTurns w) where
  -- after a history that began with a new machine
  pub refused-outside : (failed : Bool) (register : Register) (first old : Moment w) (history : List (Entry B C I)) → IsNew w failed register first → first.marks ≡ []
      → w.kind.NoneAway first.members → Steps w stored provider counts [] first history old → (own : Register)
      → RegisterStands (numbered w.kind.count) (after_all [] history) own → (event : Event B C I) → is_restart event ≡ false → (start «end» : Tally)
      → (new : w.kind.Members) (e : StepError) → IsCause w stored provider counts false own event start «end» new old e → w.kind.count < 2 ^ 64
      → (base : w.States) → TrueNames (setting w stored) (after_all [] history) → HasHonestStore w.header stored (Came event ∷ after_all [] history)
      → EachStands w stored (λ last. ComesLawfully w stored last (after_all [] history) stored counts old event
      → IsOutside start.databases «end».databases e) base [] history
  refused-outside failed register first old history is_new unmarked away steps own registered event other start last new e cause_is few base names honest =
      EachStands-last w stored (StandsAhead w laws stored stored counts provider runs_cost builds_cost honest.heights (after_all [] history) old)
      (λ b. ComesLawfully w stored b (after_all [] history) stored counts old event → IsOutside start.databases last.databases e)
      (λ b at lawful. cause-outside w laws stored stored counts provider runs_cost builds_cost few b (after_all [] history) at.stored_is event other honest old
      at.stands at.ahead lawful own registered start last new e cause_is)
      base [] history
      (steps-ahead w laws stored stored counts provider runs_cost builds_cost honest.heights base [] first history old (IsStoredNow-new C I stored)
      (StandsAt-new w stored base failed register first is_new unmarked away) (ahead-new w stored base failed register first is_new [])
      steps names (StoresFinalized-before_item w.header stored (Came event) (after_all [] history) honest.finalized))

module _ {B C I P R D H G U : Type 0} (w : Workings B C I P R D H G U) (laws : Laws w.kind) (stored stored_now : ℕ → Option (Named B))
    (counts : Counts R D H) (provider : P) (runs_cost : RunsTakeTurns w) (builds_cost : BuildsTakeTurns w)
    (base : w.States) (p : Past B C I) (stored_is : IsStoredNow stored p stored_now)
    (event : Event B C I) (failed : Bool) (register : Register) (m now : Moment w)
    (works : is_restart event ≡ false → failed ≡ false) (s : Stands w stored base p failed register m)
    (may : may_come (numbered w.kind.count) p event ≡ true) (step : IsStep w stored_now provider counts register event m now)
    (names : TrueNames (setting w stored) (after_entry p event now.marks))
    (honest : HasHonestStore w.header stored (after_entry p event now.marks)) where
  stores : StoresFinalized w.header stored (Came event ∷ p)
  stores = StoresFinalized-before_marks w.header stored (Came event ∷ p) now.marks honest.finalized

  behind : StepBehind w stored base p event now
  behind = step-behind w laws stored stored_now counts provider runs_cost builds_cost honest.heights base p stored_is event register m now s.registered
      s.restart s.past (λ other. s.at (works other)) may step names stores

  -- behind a step the finalized blocks that wait are in their order, as before it
  pub step-ahead : IsAheadLawfully w stored base p m
      → IsAheadLawfully w stored (base_after base now.marks (w.kind.point now.members)) (after_entry p event now.marks) (record now { marks = [] })
  step-ahead ahead =
      subst (λ (x : w.States). IsAheadLawfully w stored x (after_entry p event now.marks) (record now { marks = [] })) behind.base_is
      (ahead-step w laws stored stored_now counts provider runs_cost builds_cost base p stored_is event register m now may stores
      (λ other. s.at (works other)) step names behind ahead)

-- a machine that hasn't failed takes a lawful event on
pub admit-lawful : {B C I P R D H G U : Type 0} (w : Workings B C I P R D H G U) (stored : ℕ → Option (Named B)) (base : w.States) (p : Past B C I)
    (failed : Bool) (register : Register) (m : Moment w) (event : Event B C I) (before now : ℕ → ℕ) → failed ≡ false → Stands w stored base p failed register m
    → may_come (numbered w.kind.count) p event ≡ true → (e : StepError) → (e ≡ Failed) ⊎ (e ≡ BadEvent)
    → (e ≡ Failed → (failed ≡ true) × (is_restart event ≡ false))
    → (e ≡ BadEvent → (q : Past B C I) → RegisterStands (numbered w.kind.count) q register → m.loop.up ≡ not (is_down q)
    → may_come (numbered w.kind.count) q event ≡ false)
    → IsOutside before now e
admit-lawful w stored base p failed register m event before now working s may e (inl is) was never = absurd (true≢false (sym (was is).0 ∙ working))
admit-lawful w stored base p failed register m event before now working s may e (inr is) was never =
    absurd (true≢false (sym may ∙ never is p s.registered ((s.at working).up_is ∙ (s.at working).open_is)))
