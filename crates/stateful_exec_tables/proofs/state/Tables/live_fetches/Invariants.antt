use Rattle.std.specs.BTreeSet.{keys}
use Rattle.stateful_exec_tables.proofs.Pauses.{Collects}
use Rattle.stateful_exec_tables.proofs.state.Tables.live_fetches.Given as goal

abbrev pub invariant-loop-requested : goal.invariant-loop-requested
invariant-loop-requested g l = Collects l.self.requests l.requested-iterator (keys l.fetches)
