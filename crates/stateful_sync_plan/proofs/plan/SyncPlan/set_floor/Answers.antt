use Rattle.std.proofs.Common.{refl}
use Rattle.stateful_sync_plan.specs.Plan.{ignored}
use Rattle.stateful_sync_plan.proofs.Accepted.{Call-floor}
use Rattle.stateful_sync_plan.proofs.plan.SyncPlan.set_floor.Goals as goal

pub returns-then-ignores-clause-ok : goal.returns-then-ignores-clause-ok
returns-then-ignores-clause-ok g c = ignored (c.ignores.ensures.ignored.0 c.if-ignores.true) refl

pub returns-then-ignores-clause-kept : goal.returns-then-ignores-clause-kept
returns-then-ignores-clause-kept g c = c.ignores.ensures.kept

pub returns-clause-call : goal.returns-clause-call
returns-clause-call g c = Call-floor _ c.args.self.now.state c.accept.new.self.state c.args.finalization c.accept.result (c.ignores.ensures.new c.if-ignores.false) c.accept.ensures.ok c.accept.ensures.err
