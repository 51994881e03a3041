use Rattle.std.proofs.Common.{refl, ap, not}
use Rattle.stateful_sync_plan.specs.Opening.{differs}
use Rattle.stateful_sync_plan.proofs.Openings.{contradicted_by}
use Rattle.stateful_sync_plan.proofs.opening.check_digest.Goals as goal

pub returns-then-not-is : goal.returns-then-not-is
returns-then-not-is c =
    let known = c.in-Some-recorded.recorded in
    differs known (contradicted_by c.args.completed c.in-Some.at c.args.height c.in-Some.recorded known c.args.digest c.is.result c.in-Some.is c.in-Some-recorded.is c.if-at-height.true c.is.ensures (ap not c.if-not-is.true)) refl
