-- What an error is answered as.
use Rattle.std.proofs.Common.{◌≡◌, Result, Ok, Err, OnErr, IfErr, IsErrAnd, refl, sym, subst}
use Rattle.stateful_exec_tables.specs.declared.error.ExecError.{ExecError}
use Rattle.stateful_exec_tables.specs.declared.error.ExecError.TheVariants as exec
use Rattle.stateful_loop_model.specs.Causes.{Via}
use Rattle.stateful_loop_model.specs.Errors.{error_of_exec}
use Rattle.stateful_loop_model.specs.declared.error.StepError.{StepError}
use Rattle.stateful_loop_model.specs.declared.error.StepError.TheVariants.{OutOfMemory}

-- what holds of an error holds of the one that a `?` makes of it
pub converted : {T E : Type 0} (P : E → Type 0) (r : Result T E) (e : E) → IsErrAnd r (λ y. y ≡ e) → P e → IfErr r P
converted P (Ok x) e made p = tt
converted P (Err y) e made p = subst P (sym made) p

-- what holds anyway, on an error
pub err_holds : {T E P : Type 0} (r : Result T E) → P → OnErr r P
err_holds (Ok x) p = tt
err_holds (Err e) p = p

module _ {T : Type 0} (Faults : ExecError → Type 0) (result : Result T StepError) where
  pub refused : (fault : ExecError) → IsErrAnd result (λ f. f ≡ error_of_exec fault) → Faults fault → IfErr result (Via Faults)
  refused fault of cause = converted (Via Faults) result (error_of_exec fault) of (fault, cause, refl)

  pub out_of_memory : IsErrAnd result (λ f. f ≡ OutOfMemory) → Faults exec.OutOfMemory → IfErr result (Via Faults)
  out_of_memory of cause = converted (Via Faults) result OutOfMemory of (exec.OutOfMemory, cause, refl)
