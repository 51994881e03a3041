use Rattle.std.proofs.Common.{◌≡◌, ◌++◌, map, take, drop}
use Rattle.stateful_sync.specs.declared.action.DbSyncState.TheVariants.{Seeking}
use Rattle.stateful_sync.proofs.coordinator.send_all.Given as goal

abbrev pub invariant-loop-database : goal.invariant-loop-database
invariant-loop-database l =
    l.databases ≡ map (λ d. Seeking l.generation) (take l.database-index l.initial.databases) ++ drop l.database-index l.initial.databases
