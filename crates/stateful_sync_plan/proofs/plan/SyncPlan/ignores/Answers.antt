use Rattle.std.proofs.Common.{refl}
use Rattle.stateful_sync_plan.specs.Plan.{completed}
use Rattle.stateful_sync_plan.proofs.Accepted.{ignored_beside}
use Rattle.stateful_sync_plan.proofs.plan.SyncPlan.ignores.Goals as goal

pub returns-in-InProgress-clause-ignored : goal.returns-in-InProgress-clause-ignored
returns-in-InProgress-clause-ignored g c = ignored_beside c.args.self.now.state c.in-InProgress.floor c.args.finalization.now c.is_later_than.result (rw (← c.self.view_is, c.in-Some.is, c.in-InProgress.is) refl) c.is_later_than.ensures

pub returns-in-Complete-clause-ignored : goal.returns-in-Complete-clause-ignored
returns-in-Complete-clause-ignored g c = (λ _. completed c.in-Complete.height (rw (← c.self.view_is, c.in-Some.is, c.in-Complete.is) refl), λ _. refl)
