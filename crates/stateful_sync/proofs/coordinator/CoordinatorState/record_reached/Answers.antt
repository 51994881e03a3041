use Rattle.stateful_sync.specs.Assigned.{once_reached}
use Rattle.stateful_sync.proofs.Order.{changes_at, change_in_order, reached_keeps}
use Rattle.stateful_sync.proofs.coordinator.CoordinatorState.record_reached.Goals as goal

pub invariant_of-self : goal.invariant_of-self
invariant_of-self g c =
    let at = changes_at _ c.args.index (once_reached c.args.generation) c.index.result.now c.once_reached.result
    (rw (← c.self.view_is) at c.requires)
    (rw c.index.ensures at c.once_reached.ensures) in
    (change_in_order _ _ c.args.index (once_reached c.args.generation) (reached_keeps _ c.args.generation) at c.self.invariant.0, c.self.invariant.1)

pub returns-clause-in_order : goal.returns-clause-in_order
returns-clause-in_order g c = (invariant_of-self g c).0
