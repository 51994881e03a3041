-- A machine that hasn't failed never answers that it has; and a restart that finds what it needs is refused for want of memory alone.
use Rattle.std.specs.Prelude.{IsSome}
use Rattle.std.proofs.Common.{◌≡◌, ◌<◌, ◌^◌, ℕ, Bool, true, false, not, Option, List, refl, sym, ap, ◌∙◌, subst, true≢false}
use Rattle.stateful_base.specs.Causes.{Rose}
use Rattle.stateful_base.specs.Names.{Named}
use Rattle.stateful_base.specs.declared.floor.Floor.{Floor}
use Rattle.stateful_db.specs.Laws.{Laws}
use Rattle.stateful_db.specs.declared.barrier.Flushed.{Flushed}
use Rattle.stateful_history.specs.Live.{may_come, names_live}
use Rattle.stateful_history.specs.Past.{Past}
use Rattle.stateful_history.specs.Stops.{IsRestart}
use Rattle.stateful_history.specs.declared.event.Event.{Event}
use Rattle.stateful_history.specs.declared.event.Event.TheVariants as event
use Rattle.stateful_history.specs.declared.event.Event.TheVariants.{Restart}
use Rattle.stateful_exec_model.specs.Workings.{Workings}
use Rattle.stateful_actor_register.specs.Register.{RegisterStands}
use Rattle.stateful_actor_register.specs.declared.register.Register.{Register}
use Rattle.stateful_loop_laws.specs.Stands.{IsUpAt}
use Rattle.stateful_loop_laws.proofs.media.Opens.{refused-memory}
use Rattle.stateful_loop_laws.proofs.events.TakenIn.{may_come-live}
use Rattle.stateful_loop_model.specs.Barriers.{awaiting}
use Rattle.stateful_loop_model.specs.Intake.{Counts}
use Rattle.stateful_loop_model.specs.Moments.{Moment}
use Rattle.stateful_loop_model.specs.Opening.{FaultsOpening}
use Rattle.stateful_loop_model.specs.Sound.{Sound}
use Rattle.stateful_loop_model.specs.declared.error.StepError.{StepError}
use Rattle.stateful_loop_model.specs.declared.error.StepError.TheVariants as error
use Rattle.stateful_actor_laws.specs.Machine.{numbered, is_restart}
use Rattle.stateful_actor_laws.specs.Stands.{StandsAt}
use Rattle.stateful_actor_laws.proofs.work.LiveFlushes.{numbered_le, names_live-more}
use Rattle.stateful_actor_laws.proofs.steps.Stepping.{may_come-up}
use Rattle.stateful_actor_laws.specs.Outside.{IsNotFailed}
use Rattle.stateful_actor_laws.specs.Restarting.{RestartsLawfully}
use Rattle.stateful_actor_laws.proofs.complete.NeverFailed.{intake-not_failed, going-not_failed}
use Rattle.stateful_actor_step.specs.Faults.{Tally, FaultsPlay, memory, taking, going, FaultsStep, IsCause, failed_before, unlawful, fault}
use Rattle.stateful_actor_step.specs.Faults as cause
use Rattle.stateful_actor_step.proofs.Lawfully.{isnt_restart}

known-not_failed : (e known : StepError) → e ≡ known → IsNotFailed known → IsNotFailed e
known-not_failed e known is h = subst (λ (x : StepError). IsNotFailed x) (sym is) h

pub never : (e : StepError) → IsNotFailed e → e ≡ error.Failed → ⊥
never e h is = subst (λ (x : StepError). IsNotFailed x) is h

module _ {B C I P R D H G U : Type 0} (w : Workings B C I P R D H G U) (laws : Laws w.kind) (stored stored_now : ℕ → Option (Named B))
    (counts : Counts R D H) (provider : P) (base : w.States) (p : Past B C I) (v : Event B C I) (m : Moment w) (s : StandsAt w stored base p m)
    (sound : Sound w m) (register : Register) (registered : RegisterStands (numbered w.kind.count) p register) where
  -- an event that is no restart and may come
  module _ (on : IsRestart v → ⊥) (may : may_come (numbered w.kind.count) p v ≡ true) where
    up : m.loop.up ≡ true
    up = s.up_is ∙ s.open_is ∙ ap (λ x. not x) (may_come-up (numbered w.kind.count) p v on may)

    h : IsUpAt w stored base p m
    h = (s.up up).0

    live : names_live w.kind.count p v ≡ true
    live = names_live-more (numbered w.kind.count) w.kind.count (numbered_le w.kind.count) p v (may_come-live (numbered w.kind.count) p v on may)

    awaits : (k i : ℕ) (answer : Flushed) → v ≡ event.Flushed k i answer → IsSome (awaiting k i m.loop.barriers)
    awaits k i answer is = h.loop.awaits k i (subst (λ (x : Event B C I). names_live w.kind.count p x ≡ true) is live)

    plays-not_failed : (start «end» : Tally) (new : w.kind.Members) (e : StepError) → FaultsPlay w stored_now provider counts start «end» new m v e
        → IsNotFailed e
    plays-not_failed start last new e (memory is) = known-not_failed e error.OutOfMemory is tt
    plays-not_failed start last new e (taking f) =
        intake-not_failed w laws stored_now (Rose start.application last.application) start.databases last.databases new m sound up counts v awaits e f
    plays-not_failed start last new e (going {taken = taken} takes later f) =
        going-not_failed w laws stored_now provider counts m taken f.reached v sound up takes f.along
        (Rose f.before.application last.application) f.before.databases last.databases new e f.fault

  opening-not_failed : (floor : Floor) (keep : List ℕ) (before now : ℕ → ℕ) (new : w.kind.Members) (e : StepError)
      → FaultsOpening w stored_now floor keep before now m.members new e → IsNotFailed e
  opening-not_failed floor keep before now new error.Failed f = absurd f
  opening-not_failed floor keep before now new e f = tt

  step-not_failed : (start «end» : Tally) (new : w.kind.Members) (e : StepError) → may_come (numbered w.kind.count) p v ≡ true
      → FaultsStep w stored_now provider counts start «end» new m v e → IsNotFailed e
  step-not_failed start last new e may f = of v refl f
    where
      of : (x : Event B C I) → v ≡ x → FaultsStep w stored_now provider counts start last new m x e → IsNotFailed e
      of (Restart floor keep) is f = opening-not_failed floor keep start.databases last.databases new e f
      of x is f =
          plays-not_failed (λ restart. subst (λ (y : Event B C I). IsRestart y) is restart) may start last new e
          (subst (λ (y : Event B C I). FaultsPlay w stored_now provider counts start last new m y e) (sym is) f)

  -- whatever the cause
  pub cause-not_failed : (start «end» : Tally) (new : w.kind.Members) (e : StepError)
      → IsCause w stored_now provider counts false register v start «end» new m e → IsNotFailed e
  cause-not_failed start last new e (cause.memory is) = known-not_failed e error.OutOfMemory is tt
  cause-not_failed start last new e (failed_before is failed none) = absurd (true≢false (sym failed))
  cause-not_failed start last new e (unlawful is never) = known-not_failed e error.BadEvent is tt
  cause-not_failed start last new e (fault may f) = step-not_failed start last new e (may p registered) f

module _ {B C I P R D H G U : Type 0} (w : Workings B C I P R D H G U) (laws : Laws w.kind) (stored_now : ℕ → Option (Named B))
    (counts : Counts R D H) (provider : P) where
  -- a restart that finds what it needs, where no count of faults of a database rises
  pub restart-memory : (v : Event B C I) (floor : Floor) (keep : List ℕ) (m : Moment w) (start «end» : Tally) (new : w.kind.Members)
      (e : StepError) → v ≡ Restart floor keep → RestartsLawfully w stored_now floor keep m.members → w.kind.Sound m.members → w.kind.count < 2 ^ 64
      → ((i : ℕ) → i < w.kind.count → Rose (start.databases i) («end».databases i) → ⊥)
      → FaultsStep w stored_now provider counts start «end» new m v e → e ≡ error.OutOfMemory
  restart-memory v floor keep m start last new e is finds sound few rises f =
      refused-memory w laws stored_now floor keep m.members new sound finds.block finds.is_stored few start.databases last.databases rises finds.keeps e
      (subst (λ (x : Event B C I). FaultsStep w stored_now provider counts start last new m x e) is f)
