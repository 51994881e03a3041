use Rattle.std.proofs.Common.{◌≡◌, ◌++◌}
use Rattle.std.specs.Map.{keys_of}
use Rattle.stateful_db_any.specs.Any.{value_at}
use Rattle.stateful_db_any.specs.Stored.{standing_of}
use Rattle.stateful_db_any.proofs.Entries.{entries_at}
use Rattle.stateful_db_any.proofs.database.AnyDb.entries.Given as goal

-- those so far, and those of the keys that are left, are those of all
abbrev pub invariant-loop-key : goal.invariant-loop-key
invariant-loop-key g l =
    let value = value_at g.K.Ord.cmp (standing_of l.self).disk.newest in
    l.entries ++ entries_at value l.key-iterator ≡ entries_at value (keys_of l.self.index.entries)
