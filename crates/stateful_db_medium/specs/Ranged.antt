-- The range of a kept checkpoint.
use Rattle.stateful_base.specs.declared.target.Target.{Target}
use Rattle.stateful_db_medium.specs.declared.checkpoints.Checkpoint.{Checkpoint}

abbrev pub range_of : {X : Type 0} → Checkpoint X → Target
range_of s = s.target
