use Rattle.std.proofs.Common.{◌≡◌, ◌++◌, map, take, drop}
use Rattle.stateful_sync.specs.Assigned.{unless_assigned}
use Rattle.stateful_sync.proofs.coordinator.regroup.Given as goal

abbrev pub invariant-loop-database : goal.invariant-loop-database
invariant-loop-database l =
    l.databases ≡ map (unless_assigned l.generation) (take l.database-index l.initial.databases) ++ drop l.database-index l.initial.databases
