use Rattle.stateful_exec_tables.proofs.Steps.{is_free}
use Rattle.stateful_exec_tables.proofs.state.Tables.take_free.Goals as goal

pub returns-clause-free : goal.returns-clause-free
returns-clause-free g c = is_free c.args.self.now c.args.ticket c.in_ok-get.field-0.now c.in_ok-get.ensures c.take-requested.result c.take-requested.ensures.request (c.is_idle.ensures.0 c.if-not-is_idle.false)
