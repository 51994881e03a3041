-- The state that a sync of a database makes which is kept as a log.
use Rattle.std.specs.Prelude.{List}
use Rattle.stateful_db_medium.specs.declared.checkpoints.Checkpoint.{Checkpoint}
use Rattle.stateful_db_pass.specs.Fetched.{Fetched}

-- the target, and the operations of its range
abbrev pub made : {Op : Type 0} → Fetched Op → Checkpoint (List Op)
made p = record { target = p.target; kept = p.ops }
