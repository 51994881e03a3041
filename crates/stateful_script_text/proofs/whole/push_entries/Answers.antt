use Rattle.std.proofs.Common.{arith}
use Rattle.stateful_script_text.specs.Transcript.{entry_lines}
use Rattle.stateful_script_text.proofs.Numbered.{written_more}
use Rattle.stateful_script_text.proofs.whole.push_entries.Goals as goal

pub loop-number-preserved : goal.loop-number-preserved
loop-number-preserved g c =
    written_more (entry_lines g.B.Block.header.height c.args.lines.labels.now) c.args.entries.now c.loop-number.number c.index-entries-number.result _ _ _ (omega arith) c.index-entries-number.is c.loop-number.invariant c.in_ok-push_entry.ensures
