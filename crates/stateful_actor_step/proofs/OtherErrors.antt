-- No event that is taken on is refused as one that may not come.
use Rattle.std.proofs.Common.{◌≡◌, inl, inr, ℕ, Bool, true, false, Option, refl, sym, ◌∙◌, subst, true≢false}
use Rattle.stateful_base.specs.Names.{Named}
use Rattle.stateful_history.specs.declared.event.Event.{Event}
use Rattle.stateful_exec_model.specs.Workings.{Workings}
use Rattle.stateful_exec_tables.specs.declared.error.ExecError.{ExecError}
use Rattle.stateful_exec_tables.specs.declared.error.ExecError.TheVariants as exec
use Rattle.stateful_loop_model.specs.Causes.{Via, FaultsBarrier, FaultsFlush, FaultsApply, FaultsMessage, FaultsRule}
use Rattle.stateful_loop_model.specs.Causes as rule
use Rattle.stateful_loop_model.specs.Errors.{error_of_exec}
use Rattle.stateful_loop_model.specs.Intake.{Counts, FaultsIntake}
use Rattle.stateful_loop_model.specs.Intake as intake
use Rattle.stateful_loop_model.specs.Moments.{Moment}
use Rattle.stateful_loop_model.specs.declared.error.StepError.{StepError}
use Rattle.stateful_loop_model.specs.declared.error.StepError.TheVariants.{BadEvent}
use Rattle.stateful_loop_model.specs.declared.message.Message.{Message}
use Rattle.stateful_loop_model.specs.declared.message.Message.TheVariants as message
use Rattle.stateful_actor_step.specs.Faults.{memory, taking, going, Tally, FaultsPlay}

exec_other : (fault : ExecError) → error_of_exec fault ≡ BadEvent → ⊥
exec_other exec.Lost is = cc
exec_other (exec.SkippedHeight expected given) is = cc
exec_other (exec.NotExtending expected given) is = cc
exec_other (exec.ConflictAtAnchor expected given) is = cc
exec_other (exec.FinalizedRejected digest) is = cc
exec_other (exec.FinalizedMismatch index expected given) is = cc
exec_other (exec.ProposalMismatch fault) is = cc
exec_other (exec.ProposalStale anchor round) is = cc
exec_other (exec.PendingChanged before after) is = cc
exec_other exec.Application is = cc
exec_other exec.Exhausted is = cc
exec_other exec.OutOfMemory is = cc

via_other : (Faults : ExecError → Type 0) (e : StepError) → Via Faults e → e ≡ BadEvent → ⊥
via_other Faults e via bad = exec_other via.0 (sym via.2 ∙ bad)

module _ {B C I P R D H G U : Type 0} (w : Workings B C I P R D H G U) (stored : ℕ → Option (Named B)) where
  module _ (rose : Type 0) (before now : ℕ → ℕ) (new : w.kind.Members) where
    message_other : (m : Moment w) (x : Message B C I) (e : StepError) → FaultsMessage w stored rose before now new m x e → e ≡ BadEvent → ⊥
    message_other m (message.Request request) e faults bad = via_other _ e faults bad
    message_other m (message.Finalized t b) e (inl conflicts) bad = via_other _ e conflicts bad
    message_other m (message.Finalized t b) e (inr begins) bad = via_other _ e begins.1 bad
    message_other m (message.Subscribe t) e faults bad = faults

    rule_other : (m : Moment w) (e : StepError) → FaultsRule w stored rose before now new m e → e ≡ BadEvent → ⊥
    rule_other m e (rule.memory is) bad = cc
    rule_other m e (rule.scheduling collected building first verifies via) bad = via_other _ e via bad
    rule_other m e (rule.running fin begun awaits unknown via) bad = via_other _ e via bad
    rule_other m e (rule.advancing fin has via) bad = via_other _ e via bad
    rule_other m e (rule.applying fin has faults) bad = subst (λ (x : StepError). FaultsApply w.kind before now new m.members x) bad faults
    rule_other m e (rule.covering fin advanced captured needed faults) bad = subst
        (λ (x : StepError). FaultsBarrier w.kind before now new m.loop.next_barrier x) bad faults
    rule_other m e (rule.observing fin advanced captured via) bad = via_other _ e via bad
    rule_other m e (rule.ending fin advanced captured via) bad = via_other _ e via bad
    rule_other m e (rule.beginning idle needed faults) bad = subst
        (λ (x : StepError). FaultsBarrier w.kind before now new m.loop.next_barrier x) bad faults
    rule_other m e (rule.building calm first via) bad = via_other _ e via bad
    rule_other m e (rule.taking {x = x} {mid = mid} calm takes faults) bad = message_other mid x e faults bad

    intake_other : (counts : Counts R D H) (m : Moment w) (e : StepError) (event : Event B C I)
        → FaultsIntake w stored counts rose before now new m e event → e ≡ BadEvent → ⊥
    intake_other counts m e event (intake.memory is) bad = cc
    intake_other counts m e event (intake.fetching via) bad = via_other _ e via bad
    intake_other counts m e event (intake.building builds via) bad = via_other _ e via bad
    intake_other counts m e event (intake.hooking hooks via) bad = via_other _ e via bad
    intake_other counts m e event (intake.running not_built not_hooked via) bad = via_other _ e via bad
    intake_other counts m e event (intake.flushing {k = k} {i = i} faults) bad = subst
        (λ (x : StepError). FaultsFlush w.kind before now new m.loop.barriers k i x) bad faults

  -- so it is where an event isn't taken in, or something that could go on behind it didn't
  pub play_other : (provider : P) (counts : Counts R D H) (start «end» : Tally) (new : w.kind.Members) (m : Moment w) (event : Event B C I)
      (e : StepError)
      → FaultsPlay w stored provider counts start «end» new m event e → e ≡ BadEvent → ⊥
  play_other provider counts start last new m event e (memory is) bad = cc
  play_other provider counts start last new m event e (taking faults) bad = intake_other _ _ _ new counts m e event faults bad
  play_other provider counts start last new m event e (going takes later faults) bad = rule_other _ _ _ new faults.reached e faults.fault bad

-- where any other error makes this true and it isn't, it was that one
pub only_bad : (e : StepError) (X : Type 0) (failed : Bool) → ((e ≡ BadEvent → ⊥) → failed ≡ true) → (e ≡ BadEvent → X) → failed ≡ false → X
only_bad BadEvent X failed fails bad working = bad refl
only_bad e X failed fails bad working = absurd (true≢false (sym (fails (λ is. cc)) ∙ working))
