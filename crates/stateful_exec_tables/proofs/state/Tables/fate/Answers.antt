use Rattle.stateful_exec_tables.proofs.Fates.{IsFate-same}
use Rattle.stateful_exec_tables.proofs.state.Tables.fate.Goals as goal

pub returns : goal.returns
returns g c = IsFate-same g.B.Block.header c.args.self.now.pause c.args.block.now c.args.how _ _ (rw c.digest.ensures at c.has-known.ensures) c.fate.result c.fate.ensures
