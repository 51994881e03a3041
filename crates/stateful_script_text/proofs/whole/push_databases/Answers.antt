use Rattle.std.proofs.Common.{arith}
use Rattle.stateful_script_text.specs.Transcript.{database_line}
use Rattle.stateful_script_text.proofs.Numbered.{written_more}
use Rattle.stateful_script_text.proofs.whole.push_databases.Goals as goal

pub loop-number-preserved : goal.loop-number-preserved
loop-number-preserved c =
    written_more database_line c.args.databases.now c.loop-number.number c.index-databases-number.result _ _ _ (omega arith) c.index-databases-number.is c.loop-number.invariant c.in_ok-push_database.ensures
