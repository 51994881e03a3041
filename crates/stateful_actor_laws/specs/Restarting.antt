-- Which restarts are refused for want of memory alone.
use Rattle.std.specs.Prelude.{◌≡◌, ◌≤◌, ◌<◌, ℕ, Option, Some, List}
use Rattle.stateful_base.specs.Names.{Named}
use Rattle.stateful_base.specs.declared.floor.Floor.{Floor}
use Rattle.stateful_history.specs.Restarts.{reopened_height}
use Rattle.stateful_exec_model.specs.Workings.{Workings}
use Rattle.stateful_loop_laws.specs.Media.{KeepsSome}

module _ {B C I P R D H G U : Type 0} (w : Workings B C I P R D H G U) where
  -- A restart finds what it needs: some receipt may wait; the store has the block at the height
  -- that is to be opened; and after the crash each database keeps a checkpoint at the targets to
  -- which that block commits.
  pub record RestartsLawfully (stored : ℕ → Option (Named B)) (floor : Floor) (keep : List ℕ)
      (m : w.kind.Members) : Type 0 where
    pub window : 1 ≤ floor.max_pending_acks
    pub block : Named B
    pub is_stored : stored (reopened_height floor) ≡ Some block
    pub keeps : (crashed : w.kind.Members)
        → w.kind.Crashed m keep crashed
        → (i : ℕ)
        → i < w.kind.count
        → KeepsSome w.kind crashed (w.works.meaning.targets block.block) i
