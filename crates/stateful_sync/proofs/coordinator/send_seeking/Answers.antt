use Rattle.stateful_sync.specs.Assigned.{unless_reached}
use Rattle.stateful_sync.specs.declared.action.DbSyncState.TheVariants.{Seeking}
use Rattle.stateful_sync.proofs.Lists.{changed_more}
use Rattle.stateful_sync.proofs.coordinator.send_seeking.Goals as goal

pub loop-database-preserved : goal.loop-database-preserved
loop-database-preserved c =
    rw c.unless_reached.ensures
    (changed_more (unless_reached c.args.generation) c.args.databases.now c.loop-database.databases c.loop-database.database-index (Seeking 0) c.loop-database-test.true c.loop-database.auto.databases c.loop-database.invariant)
