-- Refusals whose reason lies outside of the machine, and that of a machine that has failed.
use Rattle.std.specs.Prelude.{ℕ}
use Rattle.stateful_base.specs.Causes.{Rose}
use Rattle.stateful_loop_model.specs.declared.error.StepError.{StepError}
use Rattle.stateful_loop_model.specs.declared.error.StepError.TheVariants.{Application, Exhausted}
use Rattle.stateful_loop_model.specs.declared.error.StepError.TheVariants.{DatabaseFault, Failed}
use Rattle.stateful_loop_model.specs.declared.error.StepError.TheVariants.{OutOfMemory}

-- memory or numbers ran out, or the application or a job of it failed, or a database did, whose
-- count of faults rose
abbrev pub IsOutside : (before now : ℕ → ℕ) → StepError → Type 0
IsOutside before now OutOfMemory = Unit {0}
IsOutside before now Exhausted = Unit {0}
IsOutside before now Application = Unit {0}
IsOutside before now (DatabaseFault index call) = Rose (before index) (now index)
IsOutside before now e = ⊥

-- not that the machine has failed
abbrev pub IsNotFailed : StepError → Type 0
IsNotFailed Failed = ⊥
IsNotFailed e = Unit {0}
