use Rattle.std.proofs.Common.{sym, ◌∙◌}
use Rattle.stateful_db_compact.proofs.compact.database.CompactDbManagedDb.flush.Goals as goal

pub returns-in-Err-clause-listed : goal.returns-in-Err-clause-listed
returns-in-Err-clause-listed g c = (λ failed. c.in-Err.ensures.listed.0 (sym c.broken.ensures.why ∙ failed), λ listed. c.broken.ensures.why ∙ c.in-Err.ensures.listed.1 listed)
