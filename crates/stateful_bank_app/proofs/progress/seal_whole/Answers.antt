use Rattle.std.proofs.Common.{◌∷◌, Err, ap}
use Rattle.stateful_bank_app.proofs.progress.seal_whole.Goals as goal

-- a batch that stands on the databases isn't stale
pub returns-in-Err-StaleRead-clause-ok : goal.returns-in-Err-StaleRead-clause-ok
returns-in-Err-StaleRead-clause-ok g c = λ chain shown at.
    absurd (c.in-Err-StaleRead.ensures.stale (ap Err c.in-Err-StaleRead.field-0-is) at.point chain at.is shown at.among)

pub returns-in-Err-StaleRead-clause-within : goal.returns-in-Err-StaleRead-clause-within
returns-in-Err-StaleRead-clause-within g c = λ p chain shown at.
    absurd (c.in-Err-StaleRead.ensures.stale (ap Err c.in-Err-StaleRead.field-0-is) at.point (p ∷ chain) at.is shown at.among)

pub returns-in-Ok-clause-ok : goal.returns-in-Ok-clause-ok
returns-in-Ok-clause-ok g c = λ chain shown at. c.in-Ok.ensures.ok at.point chain at.is shown at.among
