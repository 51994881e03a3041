-- What is seen of a machine.
use Rattle.std.specs.Prelude.{ℕ, ◌+◌, ◌-◌, ◌^◌, min, Bool, Result, Ok, Err}
use Rattle.stateful_actor_register.specs.declared.register.Register.{Register}
use Rattle.stateful_loop_model.specs.declared.error.StepError.{StepError}
use Rattle.stateful_loop_model.specs.declared.error.StepError.TheVariants.{Application}

-- an application, what is kept of execution and of the loop, the register of live work, what builds
-- are given, how databases are opened, whether the machine has answered an error since its last
-- start, and in how many events the application or a job failed
pub record Machine (A E L P K : Type 0) : Type 0 where
  pub application : A
  pub execution : E
  pub loop : L
  pub register : Register
  pub provider : P
  pub config : K
  pub failed : Bool
  pub faults : ℕ

-- one more after an event in which the application or a job failed, up to the last number
abbrev pub faults_after : {X : Type 0} → Result X StepError → ℕ → ℕ
faults_after (Err Application) faults = min (faults + 1) (2 ^ 64 - 1)
faults_after result faults = faults
