use Rattle.std.proofs.Common.{rules, sym, leb}
use Rattle.std.proofs.lemmas.List.Sorted.{IsPartitionedBy-leb, IsPartitionPoint-from_clause}
use Rattle.stateful_durability.specs.declared.durability.Receipt.{Receipt}
use Rattle.stateful_durability.proofs.Receipts.{in_front, ascending_fields, place_counts}
use Rattle.stateful_durability.proofs.durability.Durability.count_up_to.Goals as goal

pub returns-clause-count : goal.returns-clause-count
returns-clause-count c =
    let items = c.self.inside.held.items in
    let height = c.args.height.0 in
    let ascending = ascending_fields items c.self.invariant.in_order.ascending in
    let point = IsPartitionPoint-from_clause (λ (r : Receipt). leb r.height.0 height) items c.partition_point.result c.partition_point.ensures.partitioned (IsPartitionedBy-leb (λ (r : Receipt). r.height.0) items height ascending) (λ a r q k. search rules) in
    rw (← c.self.view_is) (sym (place_counts height items c.partition_point.result (search rules) point.0 point.1))

pub returns-clause-front : goal.returns-clause-front
returns-clause-front c = rw (← c.self.view_is) (sym (in_front c.args.height.0 _ c.self.invariant.in_order.ascending))
