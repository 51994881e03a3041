use Rattle.std.proofs.Common.{◌≡◌}
use Rattle.stateful_exec_tables.proofs.Releasing.{Drains}
use Rattle.stateful_exec_tables.proofs.state.Tables.release.Given as goal

abbrev pub invariant-loop-ticket : goal.invariant-loop-ticket
invariant-loop-ticket g l = Drains l.job l.fn.self.requests l.ticket-iterator.rest.items l.self.requests l.out.items × (l.self ≡ record l.fn.self { requests = l.self.requests })
