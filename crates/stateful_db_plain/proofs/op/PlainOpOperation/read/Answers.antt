use Rattle.stateful_base.proofs.Formats.{met, reads, passed}
use Rattle.stateful_db_plain.specs.Ops.{op_format}
use Rattle.stateful_db_plain.specs.OpsLaws.{op_alone}
use Rattle.stateful_db_plain.proofs.OpReads.{count_err, op_met}
use Rattle.stateful_db_plain.proofs.op.PlainOpOperation.read.Goals as goal

pub returns-in_err-count : goal.returns-in_err-count
returns-in_err-count c = passed op_format op_alone _ _ _ _ c.from_residual.ensures.1 (count_err _ _ _ (met c.in_err-count.ensures.reads))

pub returns : goal.returns
returns c = reads op_format op_alone _ _ _ (op_met c.in_ok-count.count _ _ _ _ (met c.in_ok-count.ensures.reads) (met c.read_entries.ensures))
