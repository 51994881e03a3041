-- Which error a fault is answered as.
use Rattle.stateful_db.specs.declared.application.AppFault.{AppFault}
use Rattle.stateful_db.specs.declared.application.AppFault.TheVariants as app
use Rattle.stateful_exec_tables.specs.declared.error.ExecError.{ExecError}
use Rattle.stateful_db.specs.declared.set.SetError.{SetError}
use Rattle.stateful_db.specs.declared.set.SetError.TheVariants as set
use Rattle.stateful_exec_tables.specs.declared.error.ExecError.TheVariants.{Lost, Application, Exhausted}
use Rattle.stateful_exec_tables.specs.declared.error.ExecError.TheVariants.{OutOfMemory}

abbrev pub error_of_app : AppFault → ExecError
error_of_app app.Failed = Application
error_of_app app.OutOfMemory = OutOfMemory

abbrev pub error_of_set : SetError → ExecError
error_of_set set.Lost = Lost
error_of_set set.Exhausted = Exhausted
error_of_set (set.DatabaseFault index call) = Lost
error_of_set set.OutOfMemory = OutOfMemory
