use Rattle.std.proofs.Common.{refl, lit<, rules}
use Rattle.stateful_sync.specs.declared.action.DbSyncState.{DbSyncState}
use Rattle.stateful_sync.proofs.Order.{start_in_order}
use Rattle.stateful_sync.proofs.Laws.{KeepsLaws-new}
use Rattle.stateful_sync.proofs.coordinator.CoordinatorState.new.Goals as goal

pub returns-clause-in_order : goal.returns-clause-in_order
returns-clause-in_order g c =
    start_in_order c.args.count (record { anchor = c.args.anchor; targets = c.args.targets }) c.in_ok-databases.databases.items c.requires
    (c.in_ok-databases.ensures.items_if_clones_equal (λ (y : DbSyncState) e. search rules))

pub invariant_of-result : goal.invariant_of-result
invariant_of-result g c = (returns-clause-in_order g c, lit< tt)

pub returns-clause-laws : goal.returns-clause-laws
returns-clause-laws g c =
    KeepsLaws-new (record { number = 0; tip = record { anchor = c.args.anchor; targets = c.args.targets } }) c.args.count c.in_ok-databases.databases.items c.requires
    (c.in_ok-databases.ensures.items_if_clones_equal (λ (y : DbSyncState) e. search rules)) refl
