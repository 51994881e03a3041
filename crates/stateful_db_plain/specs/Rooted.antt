-- Checkpoints that have the targets of their states.
use Rattle.std.specs.Prelude.{◌≡◌, ℕ, List, slice_get, Some}
use Rattle.stateful_db_medium.specs.declared.checkpoints.Checkpoint.{Checkpoint}
use Rattle.stateful_db_plain.specs.Whole.{Whole, target_of}

-- the state of a checkpoint
abbrev pub state_of : Checkpoint Whole → Whole
state_of k = k.kept

-- the target of each of these checkpoints is that of its state
abbrev pub AreRooted : List (Checkpoint Whole) → Type 0
AreRooted ks =
    (i : ℕ) (k : Checkpoint Whole) → slice_get ks i ≡ Some k → k.target ≡ target_of (state_of k)
