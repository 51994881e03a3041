use Rattle.std.proofs.Common.{rules}
use Rattle.stateful_sync.proofs.Sorting.{by_height}
use Rattle.stateful_sync.proofs.classification.by_heights.Goals as goal

pub returns-clause-sorted : goal.returns-clause-sorted
returns-clause-sorted g c =
    by_height g.B.Block.header c.args.retained.items c.sort_by_key.new.self.items c.in_ok-sort_by_key.ensures.permutation c.in_ok-sort_by_key.ensures.sorted c.in_ok-sort_by_key.ensures.stable (λ a r q k. search rules)
