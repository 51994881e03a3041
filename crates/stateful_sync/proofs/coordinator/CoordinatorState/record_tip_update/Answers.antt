use Rattle.std.proofs.Common.{◌<◌, ◌≤◌, sym, ◌∙◌}
use Rattle.std.proofs.lemmas.Map.Keys.{ge_from_not_lt}
use Rattle.stateful_sync.proofs.Lists.{lt_from_is_lt}
use Rattle.stateful_sync.specs.Coordinator.{takes, ignores}
use Rattle.stateful_sync.proofs.coordinator.CoordinatorState.record_tip_update.Goals as goal

pub returns-then-lt-clause-takes : goal.returns-then-lt-clause-takes
returns-then-lt-clause-takes g c =
    let above : c.unwrap_or-latest.result.anchor.height.0 < c.args.anchor.height.0 = lt_from_is_lt _ _ (sym c.lt.ensures ∙ c.if-lt.true) in
    rw (← c.self.view_is) (takes (rw c.unwrap_or-latest.ensures at above))

pub returns-else-lt-clause-takes : goal.returns-else-lt-clause-takes
returns-else-lt-clause-takes g c =
    let below : c.args.anchor.height.0 ≤ c.unwrap_or-latest.result.anchor.height.0 = ge_from_not_lt _ _ (sym c.lt.ensures ∙ c.if-lt.false) in
    rw (← c.self.view_is) (ignores (rw c.unwrap_or-latest.ensures at below))
