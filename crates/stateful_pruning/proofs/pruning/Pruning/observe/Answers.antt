use Rattle.std.proofs.Common.{arith}
use Rattle.stateful_pruning.proofs.Answer.{one_answer}
use Rattle.stateful_pruning.proofs.Laws.{extends}
use Rattle.stateful_pruning.proofs.Retained.{answer_keeps_windows}
use Rattle.stateful_pruning.proofs.pruning.Pruning.observe.Goals as goal

pub returns-clause-windows : goal.returns-clause-windows
returns-clause-windows g c = answer_keeps_windows _ _ _ c.record.ensures.sound.marshal c.due.ensures

pub returns-clause-only : goal.returns-clause-only
returns-clause-only g c = λ other is. one_answer _ _ other _ (omega (arith, c.record.ensures.sound)) is c.due.ensures

pub returns-clause-extends : goal.returns-clause-extends
returns-clause-extends g c = extends c.args.self.now c.record.new.self _ _ (omega (arith, c.record.ensures.sound)) c.in_ok-record.ensures.recorded c.due.ensures
