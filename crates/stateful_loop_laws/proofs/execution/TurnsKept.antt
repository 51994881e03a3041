-- Execution stands after a turn of a job, be it the live build, the hook or a run, and true verdicts are earned.
use Rattle.std.proofs.Common.{◌≡◌, ℕ, ◌∷◌, true, Option}
use Rattle.stateful_base.specs.Names.{Named}
use Rattle.stateful_db.specs.Laws.{Laws}
use Rattle.stateful_history.specs.Live.{live_job}
use Rattle.stateful_history.specs.Past.{Past, Came}
use Rattle.stateful_history.specs.declared.event.Event.TheVariants.{Turn}
use Rattle.stateful_exec_model.specs.Workings.{Workings}
use Rattle.stateful_loop_model.specs.Intake.{Counts, TurnsJob, build, hook, run}
use Rattle.stateful_loop_model.specs.Moments.{Moment}
use Rattle.stateful_loop_laws.specs.Execution.{Executes, NamesBehind, ExecutesBehind}
use Rattle.stateful_loop_laws.specs.Ways.{WaysKept}
use Rattle.stateful_loop_laws.proofs.execution.BuildTurned.{Executes-turns_build}
use Rattle.stateful_loop_laws.proofs.execution.FrontTurned.{Executes-turns_hook}
use Rattle.stateful_loop_laws.proofs.execution.RunTurned.{Executes-turns_run}

module _ {B C I P R D H G U : Type 0} (w : Workings B C I P R D H G U) (laws : Laws w.kind) (stored : ℕ → Option (Named B)) (base : w.States)
    (p : Past B C I) (m : Moment w) (e : Executes w stored base p m) (kept : WaysKept w stored p m.execution.state) where
  -- Execution stands after a turn of a live job.
  pub Executes-turns : (counts : Counts R D H) (j : ℕ) (now : Moment w) → live_job j p ≡ true → TurnsJob w counts j m now
      → NamesBehind w stored base (Came (Turn j) ∷ p) m now → ExecutesBehind w stored base (Came (Turn j) ∷ p) m now
  Executes-turns counts j now live (build {then = then} {after = next} builds turns is) names =
      Executes-turns_build w stored base p m e counts.build j now then next builds turns is names
  Executes-turns counts j now live (hook {marks = marks} {after = next} unbuilt hooks turns is) names =
      Executes-turns_hook w stored base p m e j marks next counts now hooks turns is names
  Executes-turns counts j now live (run {then = then} {after = next} unbuilt unhooked completes is) names =
      Executes-turns_run w laws stored base p m e j live kept counts now then next unbuilt unhooked completes is names
