use Rattle.std.proofs.Common.{ap}
use Rattle.stateful_pass_sets.proofs.Pairs.{each_later, same_count}
use Rattle.stateful_pass_sets.proofs.pair.Tuple2HeldStateSyncSetTuple2.progress.Goals as goal

pub returns-then-index-eq0-clause-at_rest : goal.returns-then-index-eq0-clause-at_rest
returns-then-index-eq0-clause-at_rest g c =
    let first = c.progress.ensures.at_rest in
    let members = g.S.DatabaseSet.members (g.S.StateSyncSet.at_rest c.args.passes.now.1) in
    let next = g.S.DatabaseSet.next (g.S.StateSyncSet.at_rest c.args.passes.now.1) in
    record {
      same = ap (λ m. (m, members)) first.same;
      ids = ap (λ n. (n, next)) first.ids;
      later = each_later (first.later 0) (same_count _);
      sources = each_later (first.sources 0) (same_count _);
    }
