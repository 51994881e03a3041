use Rattle.std.proofs.Common.{Err, ap}
use Rattle.stateful_exec_shell.proofs.Points.{has_point}
use Rattle.stateful_exec_shell.proofs.work.seal.Goals as goal

-- a batch that stands on the database isn't stale
pub returns-in-Err-StaleRead-clause-ok : goal.returns-in-Err-StaleRead-clause-ok
returns-in-Err-StaleRead-clause-ok c = λ chain shown at.
    let here = has_point _ chain at in
    let stale = (c.in-Err-StaleRead.ensures.stale chain shown).0 (ap Err c.in-Err-StaleRead.field-0-is) in
    cc
