use Rattle.std.proofs.Common.{ap, ◌∙◌}
use Rattle.stateful_db_medium.specs.Kept.{disk_of, standing_of}
use Rattle.stateful_db_medium.specs.Ranged.{range_of}
use Rattle.stateful_passes.specs.Synced.{synced}
use Rattle.stateful_passes.proofs.Alone.{opened_alone}
use Rattle.stateful_passes.proofs.compact.alone.Goals as goal

-- what was fetched is the only checkpoint
pub returns-clause-standing : goal.returns-clause-standing
returns-clause-standing g c =
    opened_alone range_of (disk_of c.replaced.result) c.checkpoint-checkpoint.result (standing_of c.open.result)
    c.replaced.ensures.disk c.open.ensures.opens
    ∙ ap synced c.checkpoint-checkpoint.ensures.made
