use Rattle.std.proofs.Common.{refl}
use Rattle.stateful_passes.proofs.any.AnyDbStateSyncDb.finish.Goals as goal

pub returns-in-Ok-synced-clause-leads : goal.returns-in-Ok-synced-clause-leads
returns-in-Ok-synced-clause-leads g c = c.if-prove.ensures.leads refl

pub returns-in-Err-clause-leads : goal.returns-in-Err-clause-leads
returns-in-Err-clause-leads g c = c.if-prove.ensures.leads refl
