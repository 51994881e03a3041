use Rattle.std.proofs.Common.{◌≡◌, filter, map}
use Rattle.std.specs.Map.Iter.{deref}
use Rattle.stateful_p2p_tables.specs.Deliveries.{is_free}
use Rattle.stateful_p2p_tables.proofs.deliveries.free.Given as goal

-- those so far that have no candidate to judge
abbrev pub invariant-loop-ticket : goal.invariant-loop-ticket
invariant-loop-ticket l = l.takers.items ≡ filter (is_free l.unjudged) (map deref l.yielded)
