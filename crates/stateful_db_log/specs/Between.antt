-- The operations of a checkpoint, among those that a medium keeps.
use Rattle.std.specs.Prelude.{ℕ, ◌-◌, List, take, drop}
use Rattle.stateful_db_medium.specs.declared.checkpoints.Checkpoint.{Checkpoint}

module _ {Op : Type 0} where
  -- of operations that begin at the location `first`, those from a start up to an end
  abbrev pub between : ℕ → List Op → ℕ → ℕ → List Op
  between first ops start end = take (end - start) (drop (start - first) ops)

  -- a kept checkpoint with the operations of its range
  abbrev pub state_in : ℕ → List Op → Checkpoint (Unit {0}) → Checkpoint (List Op)
  state_in first ops k =
      record { target = k.target; kept = between first ops k.target.start.0 k.target.end.0 }
