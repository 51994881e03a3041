use Rattle.std.proofs.Common.{◌≡◌, ◌↔◌, Result, subst}
use Rattle.std.specs.Prelude.{IsErrOf}
use Rattle.stateful_base.specs.declared.digest.Digest.{Digest}
use Rattle.stateful_base.specs.declared.number.Height.{Height}
use Rattle.stateful_sync_plan.specs.Plan.{IsBackward, IsConflict}
use Rattle.stateful_sync_plan.specs.declared.error.PlanError.{PlanError}
use Rattle.stateful_sync_plan.specs.declared.error.PlanError.TheVariants.{CompletedBackward, CompletedConflict}
use Rattle.stateful_sync_plan.proofs.Accepted.{Call-completion, passed_on}
use Rattle.stateful_sync_plan.proofs.plan.SyncPlan.set_completed.Goals as goal

pub returns-in_err-check_completion-clause-backward : goal.returns-in_err-check_completion-clause-backward
returns-in_err-check_completion-clause-backward g c =
    let P : Result (Unit {0}) PlanError → Type 0 = λ r. (recorded given : Height) → IsErrOf r (CompletedBackward recorded given) ↔ (IsBackward c.args.self.now.state recorded c.args.height × (given ≡ c.args.height)) in
    subst P (passed_on _ _ _ c.in_err-check_completion.was c.from_residual.ensures.1) c.check_completion.ensures.backward

pub returns-in_err-check_completion-clause-conflict : goal.returns-in_err-check_completion-clause-conflict
returns-in_err-check_completion-clause-conflict g c =
    let P : Result (Unit {0}) PlanError → Type 0 = λ r. (at : Height) (recorded given : Digest) → IsErrOf r (CompletedConflict at recorded given) ↔ (IsConflict c.args.self.now.state c.args.height recorded c.args.digest × (at ≡ c.args.height) × (given ≡ c.args.digest)) in
    subst P (passed_on _ _ _ c.in_err-check_completion.was c.from_residual.ensures.1) c.check_completion.ensures.conflict

pub returns-clause-call : goal.returns-clause-call
returns-clause-call g c = Call-completion _ c.args.self.now.state c.accept.new.self.state c.args.height c.args.digest c.accept.result c.in_ok-check_completion.ensures.ok c.accept.ensures.ok c.accept.ensures.err
