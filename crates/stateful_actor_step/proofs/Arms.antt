-- Events other than a restart, and why an event is refused at once.
use Rattle.std.proofs.Common.{◌≡◌, ◌⊎◌, inl, inr, ℕ, Bool, true, false, not, Option, refl}
use Rattle.stateful_base.specs.declared.floor.Floor.{Floor}
use Rattle.stateful_base.specs.declared.items.Items.{Items}
use Rattle.stateful_history.specs.declared.event.Event.{Event}
use Rattle.stateful_history.specs.declared.event.Event.TheVariants.{Verify, Prepare, Propose, Finalized, Subscribe, Cancel, Fetched, Turn, Flushed, Progress, Stop, Restart}
use Rattle.stateful_base.specs.Names.{Named}
use Rattle.stateful_history.specs.Live.{may_come}
use Rattle.stateful_history.specs.Opening.{is_down}
use Rattle.stateful_history.specs.Past.{Past}
use Rattle.stateful_exec_model.specs.Workings.{Workings}
use Rattle.stateful_actor_register.specs.Register.{RegisterStands}
use Rattle.stateful_actor_register.specs.declared.register.Register.{Register}
use Rattle.stateful_loop_model.specs.Intake.{Counts}
use Rattle.stateful_loop_model.specs.Moments.{Moment}
use Rattle.stateful_loop_model.specs.declared.error.StepError.{StepError}
use Rattle.stateful_loop_model.specs.declared.error.StepError.TheVariants.{BadEvent, Failed}
use Rattle.stateful_actor_step.specs.Faults.{Tally, IsCause, failed_before, unlawful}
use Rattle.stateful_actor_laws.specs.Machine.{numbered, is_restart}

-- an event that is no restart
pub other_event : {B C I : Type 0} (event : Event B C I) → ((floor : Floor) (keep : Items ℕ) → event ≡ Restart floor keep → ⊥)
    → is_restart event ≡ false
other_event (Verify t ancestry) other = refl
other_event (Prepare t context ancestry input) other = refl
other_event (Propose t context ancestry input) other = refl
other_event (Finalized t b) other = refl
other_event (Subscribe t) other = refl
other_event (Cancel t) other = refl
other_event (Fetched f answer) other = refl
other_event (Turn j) other = refl
other_event (Flushed k i answer) other = refl
other_event (Progress i) other = refl
other_event Stop other = refl
other_event (Restart floor keep) other = absurd (other floor keep refl)

module _ {B C I P R D H G U : Type 0} (w : Workings B C I P R D H G U) (stored : ℕ → Option (Named B)) (provider : P) (counts : Counts R D H) where
  -- an event that isn't taken on
  pub refused_at_once : (failed : Bool) (register : Register) (event : Event B C I) (start «end» : Tally) (new : w.kind.Members) (m : Moment w)
      (e : StepError)
      → (e ≡ Failed) ⊎ (e ≡ BadEvent) → (e ≡ Failed → (failed ≡ true) × (is_restart event ≡ false))
      → (e ≡ BadEvent → (p : Past B C I) → RegisterStands (numbered w.kind.count) p register → m.loop.up ≡ not (is_down p)
      → may_come (numbered w.kind.count) p event ≡ false)
      → IsCause w stored provider counts failed register event start «end» new m e
  refused_at_once failed register event start last new m e (inl is) before bad = failed_before is (before is).0 (before is).1
  refused_at_once failed register event start last new m e (inr is) before bad = unlawful is (bad is)
