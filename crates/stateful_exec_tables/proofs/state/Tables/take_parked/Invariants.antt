use Rattle.std.proofs.Common.{◌≡◌}
use Rattle.stateful_exec_tables.specs.Phase.{parked_in, not_parked}
use Rattle.stateful_exec_tables.proofs.Rebuilding.{Goes}
use Rattle.stateful_exec_tables.proofs.state.Tables.take_parked.Given as goal

abbrev pub invariant-loop-ticket : goal.invariant-loop-ticket
invariant-loop-ticket g l = record {
  goes : Goes l.fn.self.requests l.yielded l.ticket-iterator;
  out : l.out.items ≡ parked_in l.yielded;
  kept : l.self ≡ record l.fn.self { requests = not_parked l.yielded };
}
