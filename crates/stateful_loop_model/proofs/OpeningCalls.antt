-- Why databases that don't open are answered as errors.
use Rattle.std.proofs.Common.{ℕ, List, Option}
use Rattle.stateful_base.specs.Names.{Named}
use Rattle.stateful_base.specs.declared.floor.Floor.{Floor}
use Rattle.stateful_db.specs.declared.database.InitError.{InitError}
use Rattle.stateful_db.specs.declared.database.InitError.TheVariants as init
use Rattle.stateful_exec_model.specs.Workings.{Workings}
use Rattle.stateful_loop_model.specs.Errors.{error_of_why}
use Rattle.stateful_loop_model.specs.Opening.{FailsToOpen, FaultsOpening}

module _ {B C I P R D H G U : Type 0} (w : Workings B C I P R D H G U) (stored : ℕ → Option (Named B)) (floor : Floor) (keep : List ℕ) (before now : ℕ → ℕ) (old new : w.kind.Members) where
  -- a database didn't open, for this reason
  pub fault_opening : (i : ℕ) (why : InitError) → FailsToOpen w stored floor keep before now old new i why → FaultsOpening w stored floor keep before now old new (error_of_why why i)
  fault_opening i init.Database f = f
  fault_opening i (init.TargetMismatch expected recovered) f = f
  fault_opening i init.OutOfMemory f = tt
