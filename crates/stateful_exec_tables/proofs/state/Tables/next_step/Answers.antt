use Rattle.stateful_exec_tables.proofs.state.Tables.next_step.Goals as goal

pub returns-clause-next : goal.returns-clause-next
returns-clause-next g c = (c.in_ok-next_of.field-0.now, c.in_ok-next_of.ensures.next, c.of.ensures)
