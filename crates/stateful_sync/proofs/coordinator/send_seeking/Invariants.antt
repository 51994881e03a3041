use Rattle.std.proofs.Common.{◌≡◌, ◌++◌, map, take, drop}
use Rattle.stateful_sync.specs.Assigned.{unless_reached}
use Rattle.stateful_sync.proofs.coordinator.send_seeking.Given as goal

abbrev pub invariant-loop-database : goal.invariant-loop-database
invariant-loop-database l =
    l.databases ≡ map (unless_reached l.generation) (take l.database-index l.initial.databases) ++ drop l.database-index l.initial.databases
