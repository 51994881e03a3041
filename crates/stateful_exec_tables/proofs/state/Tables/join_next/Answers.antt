use Rattle.std.proofs.lemmas.Result.{IfOk-weaker}
use Rattle.stateful_exec_tables.proofs.Steps.{joined_on_known}
use Rattle.stateful_exec_tables.proofs.state.Tables.join_next.Goals as goal

pub returns-clause-on_known : goal.returns-clause-on_known
returns-clause-on_known g c = IfOk-weaker c.join.result _ _ (joined_on_known g.B.Block.header c.args.self.now c.join.new.path.parent c.args.path.now.parent) c.join.ensures.joins
