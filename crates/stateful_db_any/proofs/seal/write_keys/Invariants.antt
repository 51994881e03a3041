use Rattle.std.proofs.Common.{◌≡◌, ◌+◌, ◌≤◌, ◌++◌, length, is_some}
use Rattle.std.specs.Map.{lookup}
use Rattle.std.specs.BTreeMap.{is_at}
use Rattle.stateful_db_any.specs.Any.{ops_for}
use Rattle.stateful_db_any.specs.Through.{place_through}
use Rattle.stateful_db_any.proofs.seal.write_keys.Given as goal

-- the operations so far, and those of the writes that are left, are all
abbrev pub invariant-loop-key : goal.invariant-loop-key
invariant-loop-key g l =
    let cmp = g.K.Ord.cmp in
    let live = λ (key : g.row.K.Denot). is_some (place_through cmp l.layers key (lookup (is_at (cmp key)) l.db.index.entries)) in
    record {
      from : l.all.from ≡ l.fn.from;
      ops : l.all.ops ++ ops_for live l.key-iterator ≡ ops_for live l.writes.entries;
      room : length l.all.ops + length l.key-iterator ≤ length l.writes.entries;
    }
