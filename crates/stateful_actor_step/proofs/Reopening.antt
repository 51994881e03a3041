-- A restart at a height at which the databases can be opened again.
use Rattle.std.proofs.Common.{◌≡◌, ◌<◌, ◌^◌, ℕ, Bool, List, Option, Some, subst}
use Rattle.stateful_base.specs.Causes.{Rose}
use Rattle.stateful_base.specs.Names.{Named}
use Rattle.stateful_base.specs.declared.floor.Floor.{Floor}
use Rattle.stateful_db.specs.Laws.{Laws}
use Rattle.stateful_history.specs.Past.{Past}
use Rattle.stateful_history.specs.Restarts.{reopened_height, CanReopen, Finds}
use Rattle.stateful_history.specs.declared.event.Event.{Event}
use Rattle.stateful_history.specs.declared.event.Event.TheVariants.{Restart}
use Rattle.stateful_exec_model.specs.Workings.{Workings}
use Rattle.stateful_actor_register.specs.declared.register.Register.{Register}
use Rattle.stateful_exec_laws.specs.Setting.{setting}
use Rattle.stateful_loop_model.specs.Intake.{Counts}
use Rattle.stateful_loop_model.specs.Moments.{Moment}
use Rattle.stateful_loop_model.specs.declared.error.StepError.{StepError}
use Rattle.stateful_loop_model.specs.declared.error.StepError.TheVariants.{OutOfMemory}
use Rattle.stateful_actor_laws.specs.Media.{MediaStand, TargetsName, OpensOn}
use Rattle.stateful_actor_laws.specs.Steps.{IsStep}
use Rattle.stateful_actor_laws.proofs.complete.MediaRefused.{reopens-memory, reopens-on}
use Rattle.stateful_actor_step.specs.Faults.{Tally, FaultsStep}

module _ {B C I P R D H G U : Type 0} (w : Workings B C I P R D H G U) (laws : Laws w.kind) (stored stored_now : ℕ → Option (Named B))
    (provider : P) (counts : Counts R D H) (p : Past B C I) (floor : Floor) (keep : List ℕ) (genesis state : w.States) (block : Named B)
    (event : Event B C I) (is : event ≡ Restart floor keep) (can : CanReopen (reopened_height floor) p) (failed : Bool) (m : Moment w)
    (k : MediaStand w stored p failed m) (finds : Finds (setting w stored) genesis (reopened_height floor) block state)
    (is_stored : stored_now (reopened_height floor) ≡ Some block) where
  -- no count of faults rises: it is refused for want of memory alone
  pub reopens-refused : w.kind.Sound m.members → w.kind.count < 2 ^ 64 → (start «end» : Tally) (new : w.kind.Members) (e : StepError)
      → FaultsStep w stored_now provider counts start «end» new m event e
      → ((i : ℕ) → i < w.kind.count → Rose (start.databases i) («end».databases i) → ⊥) → e ≡ OutOfMemory
  reopens-refused sound few start last new e fault rises =
      reopens-memory w laws stored stored_now p floor keep genesis state block can failed m k finds is_stored sound few start.databases last.databases
      rises new e (subst (λ (v : Event B C I). FaultsStep w stored_now provider counts start last new m v e) is fault)

  -- where it isn't refused, the databases are open on the fold's states
  pub reopens-done : TargetsName w → (register : Register) (now : Moment w) → IsStep w stored_now provider counts register event m now
      → OpensOn w now.marks now.members state
  reopens-done names register now step =
      reopens-on w laws stored stored_now p floor keep genesis state block can failed m k finds is_stored names register now
      (subst (λ (v : Event B C I). IsStep w stored_now provider counts register v m now) is step)
