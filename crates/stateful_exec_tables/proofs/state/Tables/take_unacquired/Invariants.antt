use Rattle.std.proofs.Common.{◌≡◌}
use Rattle.stateful_exec_tables.specs.Phase.{unacquired_in, not_unacquired}
use Rattle.stateful_exec_tables.proofs.Rebuilding.{Goes}
use Rattle.stateful_exec_tables.proofs.state.Tables.take_unacquired.Given as goal

abbrev pub invariant-loop-ticket : goal.invariant-loop-ticket
invariant-loop-ticket g l = record {
  goes : Goes l.fn.self.requests l.yielded l.ticket-iterator;
  out : l.out.items ≡ unacquired_in l.yielded;
  kept : l.self ≡ record l.fn.self { requests = not_unacquired l.yielded };
}
