use Rattle.std.proofs.Common.{length}
use Rattle.stateful_exec_tables.specs.Meeting.{HasPassed}
use Rattle.stateful_exec_tables.proofs.state.Tables.skip.Given as goal

abbrev pub invariant-loop-met : goal.invariant-loop-met
invariant-loop-met g l = HasPassed g.B.Block.header l.self l.fn.path l.path

abbrev pub decreases-loop-met : goal.decreases-loop-met
decreases-loop-met g l = length l.path.blocks
