use Rattle.std.proofs.Common.{refl}
use Rattle.stateful_db.proofs.Pairs.{each_same}
use Rattle.stateful_db.proofs.pair.Tuple2HeldDatabaseSet.new_batches.Goals as goal

pub returns-in_err-first-clause-counts : goal.returns-in_err-first-clause-counts
returns-in_err-first-clause-counts g c = each_same (c.in_err-first.ensures.counts 0) (λ i. refl)

pub returns-in_err-others-clause-counts : goal.returns-in_err-others-clause-counts
returns-in_err-others-clause-counts g c = each_same (c.in_ok-first.ensures.counts 0) c.in_err-others.ensures.counts

pub returns-clause-counts : goal.returns-clause-counts
returns-clause-counts g c = each_same (c.in_ok-first.ensures.counts 0) c.in_ok-others.ensures.counts

pub returns-in_err-first-clause-calls : goal.returns-in_err-first-clause-calls
returns-in_err-first-clause-calls g c = each_same (c.in_err-first.ensures.calls 0) (λ i. refl)

pub returns-in_err-others-clause-calls : goal.returns-in_err-others-clause-calls
returns-in_err-others-clause-calls g c = each_same (c.in_ok-first.ensures.calls 0) c.in_err-others.ensures.calls

pub returns-clause-calls : goal.returns-clause-calls
returns-clause-calls g c = each_same (c.in_ok-first.ensures.calls 0) c.in_ok-others.ensures.calls
