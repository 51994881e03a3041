use Rattle.std.proofs.Common.{◌≤◌, ◌+◌, Bool, length}
use Rattle.stateful_db_any.specs.Any.{ops_for}
use Rattle.stateful_db_any.proofs.batch.puts.Given as goal

-- those so far, and the operations of those that are left, are no more than all
abbrev pub invariant-loop-value : goal.invariant-loop-value
invariant-loop-value g l = (live : g.row.K.Denot → Bool) → l.count + length (ops_for live l.value-iterator) ≤ length (ops_for live l.writes.entries)
