use Rattle.std.proofs.Common.{refl, map, []}
use Rattle.stateful_db.specs.Pair.{left, right}
use Rattle.stateful_db.specs.PairLaws.{both_left, both_right}
use Rattle.stateful_db.proofs.Pairs.{each_same, of_parts, of_whole, below_parts, below_whole}
use Rattle.stateful_db.proofs.pair.Tuple2HeldDatabaseSet.fork_batches.Goals as goal

pub returns-in_err-first-clause-counts : goal.returns-in_err-first-clause-counts
returns-in_err-first-clause-counts g c = each_same (c.in_err-first.ensures.counts 0) (λ i. refl)

pub returns-in_err-others-clause-counts : goal.returns-in_err-others-clause-counts
returns-in_err-others-clause-counts g c = each_same (c.in_ok-first.ensures.counts 0) c.in_err-others.ensures.counts

pub returns-clause-counts : goal.returns-clause-counts
returns-clause-counts g c = each_same (c.in_ok-first.ensures.counts 0) c.in_ok-others.ensures.counts

pub returns-clause-ok : goal.returns-clause-ok
returns-clause-ok g c = λ p q above older here shown drawn.
    let one = c.in_ok-first.ensures.ok (left p) (left q) (map left above) (map left older) (both_left _ _ p here)
    (of_parts left (g.A.Merkleized.Merkleized.shows c.args.parent.now.0) q p above older shown.0)
    (below_parts left q p above older drawn.0) in
    let other = c.in_ok-others.ensures.ok (right p) (right q) (map right above) (map right older) (both_right _ _ p here)
    (of_parts right (g.R.DatabaseSet.shows c.args.parent.now.1) q p above older shown.1)
    (of_parts right (g.R.DatabaseSet.kind.issued (g.R.DatabaseSet.next c.args.self.now.1)) q p above older drawn.1) in (
      (of_whole left (g.A.Unmerkleized.Unmerkleized.shows c.in_ok-first.first) _ q p above [] one.0, of_whole right (g.R.DatabaseSet.opened c.in_ok-others.others) _ q p above [] other.0),
      (below_whole left (_, g.A.ManagedDb.begun q.1.0) q p above [] one.1, of_whole right (g.R.DatabaseSet.kind.issued (g.R.DatabaseSet.next c.fork_batches-2.new.self)) _ q p above [] other.1),
    )

pub returns-in_err-first-clause-calls : goal.returns-in_err-first-clause-calls
returns-in_err-first-clause-calls g c = each_same (c.in_err-first.ensures.calls 0) (λ i. refl)

pub returns-in_err-others-clause-calls : goal.returns-in_err-others-clause-calls
returns-in_err-others-clause-calls g c = each_same (c.in_ok-first.ensures.calls 0) c.in_err-others.ensures.calls

pub returns-clause-calls : goal.returns-clause-calls
returns-clause-calls g c = each_same (c.in_ok-first.ensures.calls 0) c.in_ok-others.ensures.calls
