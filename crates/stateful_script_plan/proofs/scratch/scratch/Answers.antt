use Rattle.std.proofs.Common.{Some, ap, subst}
use Rattle.stateful_script_plan.proofs.scratch.scratch.Goals as goal

pub returns-in-Ok : goal.returns-in-Ok
returns-in-Ok g c =
    let set = g.W.Databases.DatabaseSet in
    let empty = g.met.W.Fresh.blank_are c.empty-databases.result c.empty-databases.ensures.blank in
    let opening = c.in-Ok.ensures.opening empty.openable (set.kind.target_of set.kind.initial) (ap Some c.initial_sync_targets-initial.ensures) in (
      opening.at,
      record {
        here = opening.here;
        initial = empty.opened (set.members c.init.new.self) opening.at (subst (λ t. set.kind.Reopened (set.members c.empty-databases.result) (Some t) (set.members c.init.new.self)) c.initial_sync_targets-initial.ensures c.in-Ok.ensures.ok) opening.here;
        drawn = opening.drawn;
      },
    )
