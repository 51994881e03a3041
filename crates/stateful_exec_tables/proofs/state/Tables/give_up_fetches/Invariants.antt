use Rattle.std.proofs.Common.{◌≡◌, map}
use Rattle.stateful_exec_tables.specs.Phase.{dropped}
use Rattle.stateful_exec_tables.proofs.Rebuilding.{Goes}
use Rattle.stateful_exec_tables.proofs.state.Tables.give_up_fetches.Given as goal

abbrev pub invariant-loop-ticket : goal.invariant-loop-ticket
invariant-loop-ticket g l = record {
  goes : Goes l.fn.self.requests l.yielded l.ticket-iterator;
  kept : l.self ≡ record l.fn.self { requests = map dropped l.yielded };
}
