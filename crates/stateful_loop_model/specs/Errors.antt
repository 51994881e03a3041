-- Which error a lower one is answered as.
use Rattle.std.specs.Prelude.{ℕ}
use Rattle.stateful_db.specs.declared.database.InitError.{InitError}
use Rattle.stateful_db.specs.declared.database.InitError.TheVariants as init
use Rattle.stateful_db.specs.declared.set.SetError.{SetError}
use Rattle.stateful_db.specs.declared.set.SetError.TheVariants as set
use Rattle.stateful_db.specs.declared.set.SetInit.{SetInit}
use Rattle.stateful_exec_tables.specs.declared.error.ExecError.{ExecError}
use Rattle.stateful_exec_tables.specs.declared.error.ExecError.TheVariants as exec
use Rattle.stateful_loop_model.specs.declared.error.StepError.{StepError}
use Rattle.stateful_loop_model.specs.declared.error.StepError.TheVariants as step

abbrev pub error_of_exec : ExecError → StepError
error_of_exec exec.Lost = step.Failed
error_of_exec (exec.SkippedHeight expected given) = step.SkippedHeight expected given
error_of_exec (exec.NotExtending expected given) = step.NotExtending expected given
error_of_exec (exec.ConflictAtAnchor expected given) = step.ConflictAtAnchor expected given
error_of_exec (exec.FinalizedRejected digest) = step.FinalizedRejected digest
error_of_exec (exec.FinalizedMismatch index expected given) =
    step.FinalizedMismatch index expected given
error_of_exec (exec.ProposalMismatch fault) = step.ProposalMismatch fault
error_of_exec (exec.ProposalStale anchor round) = step.ProposalStale anchor round
error_of_exec (exec.PendingChanged before after) = step.PendingChanged before after
error_of_exec exec.Application = step.Application
error_of_exec exec.Exhausted = step.Exhausted
error_of_exec exec.OutOfMemory = step.OutOfMemory

abbrev pub error_of_set : SetError → StepError
error_of_set set.Lost = step.Failed
error_of_set set.Exhausted = step.Exhausted
error_of_set (set.DatabaseFault index call) = step.DatabaseFault index call
error_of_set set.OutOfMemory = step.OutOfMemory

abbrev pub error_of_why : InitError → ℕ → StepError
error_of_why init.Database index = step.Database index
error_of_why (init.TargetMismatch expected recovered) index =
    step.TargetMismatch index expected recovered
error_of_why init.OutOfMemory index = step.OutOfMemory

abbrev pub error_of_init : SetInit → StepError
error_of_init fault = error_of_why fault.why fault.index
