-- Where a database isn't served what execution asks of it, or a request isn't, the reason lies outside: the databases are here.
use Rattle.std.proofs.Common.{◌≡◌, ◌∷◌, [], ℕ, Option, Some, None, List, refl, sym, ap, ◌∙◌, subst}
use Rattle.stateful_base.specs.Names.{Named}
use Rattle.stateful_history.specs.declared.mark.How.{How}
use Rattle.stateful_exec_model.specs.Building.{FaultsPropose}
use Rattle.stateful_exec_model.specs.Building as building
use Rattle.stateful_exec_model.specs.Causes.{FaultsStart, FaultsAdvance, FaultsAcquire, FaultsFollow}
use Rattle.stateful_exec_model.specs.Causes as cause
use Rattle.stateful_exec_model.specs.Ending.{StopsAt}
use Rattle.stateful_exec_model.specs.Finalizing.{FaultsObserve}
use Rattle.stateful_exec_model.specs.Finalizing as final
use Rattle.stateful_exec_model.specs.Fetching.{FaultsFetched}
use Rattle.stateful_exec_model.specs.Fetching as fetching
use Rattle.stateful_exec_model.specs.Moments as exec
use Rattle.stateful_exec_walk.specs.Path.{Path}
use Rattle.stateful_exec_model.specs.Pausing.{FaultsResume, GoesAlong, AcquiresAnew, unparked, unsettled}
use Rattle.stateful_exec_model.specs.Pausing as pausing
use Rattle.stateful_exec_tables.specs.Phase.{parked_in, unacquired_in}
use Rattle.stateful_exec_model.specs.Workings.{Workings, Point}
use Rattle.stateful_exec_tables.specs.declared.error.ExecError.{ExecError}
use Rattle.stateful_exec_tables.specs.declared.error.ExecError.TheVariants as exec_error
use Rattle.stateful_exec_tables.specs.declared.state.Tables.{Tables}
use Rattle.stateful_exec_tables.specs.declared.tables.Released.{Released}
use Rattle.stateful_exec_tables.specs.declared.tables.Requested.{Requested}
use Rattle.stateful_loop_model.specs.Causes.{Via}
use Rattle.stateful_loop_model.specs.Errors.{error_of_exec}
use Rattle.stateful_loop_model.specs.declared.error.StepError.{StepError}
use Rattle.stateful_loop_model.proofs.Staying.{along-stays, anew-stays}
use Rattle.stateful_loop_model.proofs.SoundingTurns.{follow_stays}
use Rattle.stateful_actor_laws.specs.Outside.{IsOutside}

-- what execution answers for such a reason
abbrev pub IsOutsideOf : ExecError → Type 0
IsOutsideOf exec_error.OutOfMemory = Unit {0}
IsOutsideOf exec_error.Exhausted = Unit {0}
IsOutsideOf exec_error.Application = Unit {0}
IsOutsideOf e = ⊥

pub outside-is : (e known : ExecError) → e ≡ known → IsOutsideOf known → IsOutsideOf e
outside-is e known is h = subst (λ (x : ExecError). IsOutsideOf x) (sym is) h

-- an error that execution answered
module _ (before now : ℕ → ℕ) where
  outside-of : (e : ExecError) → IsOutsideOf e → IsOutside before now (error_of_exec e)
  outside-of exec_error.OutOfMemory h = tt
  outside-of exec_error.Exhausted h = tt
  outside-of exec_error.Application h = tt
  outside-of e h = absurd h

  pub outside-via : (Faults : ExecError → Type 0) → ((fault : ExecError) → Faults fault → IsOutsideOf fault) → (e : StepError) → Via Faults e
      → IsOutside before now e
  outside-via Faults each e via = subst (λ (x : StepError). IsOutside before now x) (sym via.2) (outside-of via.0 (each via.0 via.1))

module _ {B C I P R D H G U : Type 0} (w : Workings B C I P R D H G U) where
  -- the databases are here
  abbrev pub AreHere : w.kind.Members → Type 0
  AreHere m = w.kind.point m ≡ None → ⊥

  pub start-outside : (rose : Type 0) (job : ℕ) (m : w.kind.Members) (next : w.Ids) → AreHere m → (e : ExecError) → FaultsStart w rose job m next e
      → IsOutsideOf e
  start-outside rose job m next here exec_error.OutOfMemory h = tt
  start-outside rose job m next here exec_error.Exhausted h = tt
  start-outside rose job m next here exec_error.Application h = tt
  start-outside rose job m next here exec_error.Lost h = absurd (here h.0)
  start-outside rose job m next here e h = absurd h

  module _ (rose : Type 0) (m : exec.Moment w) (here : AreHere m.members) where
    pub advance-outside : (path : Path B) (e : ExecError) → FaultsAdvance w rose m path e → IsOutsideOf e
    advance-outside path e (cause.memory is) = outside-is e exec_error.OutOfMemory is tt
    advance-outside path e (cause.starting reaches goes unknown unrun known start) = start-outside rose m.state.next_job m.members m.next here e start

    pub acquire-outside : (stored : ℕ → Option (Named B)) (r : Requested B C I) (e : ExecError) → FaultsAcquire w rose stored m r e → IsOutsideOf e
    acquire-outside stored r e (cause.memory is) = outside-is e exec_error.OutOfMemory is tt
    acquire-outside stored r e (cause.no_fetch digest is needs last) = outside-is e exec_error.Exhausted is tt
    acquire-outside stored r e (cause.running {path = path} needs advance) = advance-outside path e advance

  -- requests that waited for a run
  pub follow-outside : (rose : Type 0) (b : Named B) (how : How) (all : List (Released B C I)) (m : exec.Moment w) → AreHere m.members → (e : ExecError)
      → FaultsFollow w rose b how all m e → IsOutsideOf e
  follow-outside rose b how all m here e s =
      let stays = follow_stays w b how s.served m s.mid s.turns in
      advance-outside rose s.mid (subst (λ (x : w.kind.Members). AreHere x) (sym stays.members) here) s.next.path e s.fault

  -- what goes on after a pause
  pub resume-outside : (rose : Type 0) (stored : ℕ → Option (Named B)) (m : exec.Moment w) → AreHere m.members → (e : ExecError)
      → FaultsResume w rose stored m e → IsOutsideOf e
  resume-outside rose stored m here e (pausing.memory is) = outside-is e exec_error.OutOfMemory is tt
  resume-outside rose stored m here e (pausing.along s) =
      let stays = along-stays w stored s.served (unparked w m) s.mid s.turns in
      advance-outside rose s.mid (subst (λ (x : w.kind.Members). AreHere x) (sym stays.members) here) s.next.path e s.fault
  resume-outside rose stored m here e (pausing.anew mid along s) =
      let one = along-stays w stored (parked_in m.state.requests) (unparked w m) mid along in
      let two = anew-stays w stored s.served (unsettled w mid) s.mid s.turns in
      acquire-outside rose s.mid (subst (λ (x : w.kind.Members). AreHere x) (sym (two.members ∙ one.members)) here) stored _ e s.fault

  -- a build
  pub propose-outside : (rose : Type 0) (t : ℕ) (m : w.kind.Members) (next : w.Ids) (old : Tables B C I R U) → AreHere m → (e : ExecError)
      → FaultsPropose w rose t m next old e → IsOutsideOf e
  propose-outside rose t m next old here e (building.memory is) = outside-is e exec_error.OutOfMemory is tt
  propose-outside rose t m next old here e (building.starting ready start) = start-outside rose old.next_job m next here e start

  -- a hook
  pub observe-outside : (rose : Type 0) (b : Named B) (captured : G) (m : w.kind.Members) (next_job : ℕ) (e : ExecError)
      → FaultsObserve w rose b captured m next_job e → IsOutsideOf e
  observe-outside rose b captured m next_job e (final.memory is) = outside-is e exec_error.OutOfMemory is tt
  observe-outside rose b captured m next_job e (final.failed is risen) = outside-is e exec_error.Application is tt
  observe-outside rose b captured m next_job e (final.no_job is left last) = outside-is e exec_error.Exhausted is tt

  -- an answer of a fetch
  pub fetched-outside : (rose : Type 0) (stored : ℕ → Option (Named B)) (m : exec.Moment w) (f : ℕ) (answer : Option (Named B)) → AreHere m.members
      → (e : ExecError) → FaultsFetched w rose stored m f answer e → IsOutsideOf e
  fetched-outside rose stored m f answer here e (fetching.no_room is) = outside-is e exec_error.OutOfMemory is tt
  fetched-outside rose stored m f answer here e (fetching.acquiring t r b own is acquire) = acquire-outside rose _ here stored _ e acquire
