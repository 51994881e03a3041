use Rattle.std.proofs.Common.{◌≡◌, ◌++◌}
use Rattle.stateful_exec_tables.specs.Phase.{tickets_on}
use Rattle.stateful_exec_tables.proofs.state.Tables.tickets_on.Given as goal

abbrev pub invariant-loop-ticket : goal.invariant-loop-ticket
invariant-loop-ticket g l = tickets_on l.job l.self.requests ≡ l.tickets ++ tickets_on l.job l.ticket-iterator
