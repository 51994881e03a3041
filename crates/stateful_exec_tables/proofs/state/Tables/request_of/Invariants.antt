use Rattle.std.proofs.Common.{◌≡◌}
use Rattle.stateful_exec_tables.specs.declared.tables.Phase.TheVariants.{Fetching}
use Rattle.stateful_exec_tables.proofs.Entries.{Searches}
use Rattle.stateful_exec_tables.proofs.state.Tables.request_of.Given as goal

abbrev pub invariant-loop-ticket : goal.invariant-loop-ticket
invariant-loop-ticket g l = Searches l.self.requests (λ r. r.phase ≡ Fetching l.fetch) l.ticket-iterator
