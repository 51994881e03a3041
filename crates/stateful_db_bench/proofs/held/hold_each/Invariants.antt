use Rattle.std.proofs.Common.{◌≡◌}
use Rattle.stateful_db_bench.proofs.held.hold_each.Given as goal

-- the databases are as they were
abbrev pub invariant-loop-number : goal.invariant-loop-number
invariant-loop-number g l = g.S.DatabaseSet.members l.set ≡ g.S.DatabaseSet.members l.initial.set
