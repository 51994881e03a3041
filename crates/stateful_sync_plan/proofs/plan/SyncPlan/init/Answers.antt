use Rattle.std.proofs.Common.{rules, Ok}
use Rattle.std.specs.Prelude.{IfSome}
use Rattle.stateful_sync_plan.specs.State.{state_format}
use Rattle.stateful_sync_plan.specs.Worth.{IsWorth}
use Rattle.stateful_sync_plan.proofs.Ahead.{NeverFallsBack-all}
use Rattle.stateful_sync_plan.proofs.States.{state_tags}
use Rattle.stateful_sync_plan.proofs.Wholes.{one_kept}
use Rattle.stateful_sync_plan.proofs.plan.SyncPlan.init.Goals as goal

pub returns-clause-again : goal.returns-clause-again
returns-clause-again g c =
    let certificate = g.S.Scheme.certificates in
    let held = g.P.PlanStore.stored c.args.store in
    let worth : IfSome held (λ value. IsWorth (state_format certificate) value (Ok c.match-loaded.state)) = search rules in
    one_kept (state_format certificate) (state_tags certificate g.met.S.Scheme.lawful).law held c.match-loaded.state worth

pub returns-clause-law : goal.returns-clause-law
returns-clause-law g c = NeverFallsBack-all c.match-loaded.state
