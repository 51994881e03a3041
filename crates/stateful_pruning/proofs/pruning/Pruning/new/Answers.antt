use Rattle.std.proofs.Common.{arith}
use Rattle.stateful_pruning.proofs.Laws.{keeps_window, answers_by_all}
use Rattle.stateful_pruning.proofs.pruning.Pruning.new.Goals as goal

pub returns-clause-kept : goal.returns-clause-kept
returns-clause-kept g c = rw c.new.ensures.items (keeps_window _)

pub returns-clause-answers : goal.returns-clause-answers
returns-clause-answers g c = rw c.new.ensures.items (answers_by_all _ (omega arith))
