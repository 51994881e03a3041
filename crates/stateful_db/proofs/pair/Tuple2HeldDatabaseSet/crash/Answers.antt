use Rattle.stateful_db.proofs.Pairs.{each_same}
use Rattle.stateful_db.proofs.pair.Tuple2HeldDatabaseSet.crash.Goals as goal

pub returns-clause-counts : goal.returns-clause-counts
returns-clause-counts g c = each_same (c.crash.ensures.counts 0) c.crash-2.ensures.counts

pub returns-clause-calls : goal.returns-clause-calls
returns-clause-calls g c = each_same (c.crash.ensures.calls 0) c.crash-2.ensures.calls
