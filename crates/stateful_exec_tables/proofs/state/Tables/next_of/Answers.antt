use Rattle.stateful_exec_tables.proofs.Steps.{has_next, at_its_end, if_none_weaker}
use Rattle.stateful_exec_tables.proofs.state.Tables.next_of.Goals as goal

pub returns-clause-next : goal.returns-clause-next
returns-clause-next g c = has_next c.args.self.now c.args.ticket c.in_ok-get.field-0.now c.in_ok-get.ensures c.in_ok-parked.field-0.now c.in_ok-parked.ensures.some _ c.next.ensures.next

pub returns-clause-none : goal.returns-clause-none
returns-clause-none g c = if_none_weaker c.next.result (at_its_end c.args.self.now c.args.ticket c.in_ok-get.field-0.now c.in_ok-get.ensures c.in_ok-parked.field-0.now c.in_ok-parked.ensures.some) c.next.ensures.none
