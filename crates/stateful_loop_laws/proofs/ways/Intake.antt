-- The ways of requests are kept after an event that is taken in.
use Rattle.std.proofs.Common.{◌≡◌, ◌∷◌, ℕ, Option, ap}
use Rattle.stateful_base.specs.Names.{Named}
use Rattle.stateful_db.specs.Laws.{Laws}
use Rattle.stateful_history.specs.Met.{TrueNames}
use Rattle.stateful_history.specs.Past.{Past, Came}
use Rattle.stateful_history.specs.Stops.{IsRestart}
use Rattle.stateful_history.specs.declared.event.Event.{Event}
use Rattle.stateful_exec_model.specs.Workings.{Workings}
use Rattle.stateful_exec_laws.specs.Setting.{setting}
use Rattle.stateful_loop_model.specs.Intake as intake
use Rattle.stateful_loop_model.specs.Intake.{Counts, TakesIn}
use Rattle.stateful_loop_model.specs.Moments.{Moment}
use Rattle.stateful_loop_laws.specs.Execution.{Executes}
use Rattle.stateful_loop_laws.specs.Ways.{WaysKept, WaysBehind}
use Rattle.stateful_loop_laws.proofs.ways.Beside.{WaysKept-came, WaysBehind-still}
use Rattle.stateful_loop_laws.proofs.ways.GivenUp.{WaysBehind-cancels}
use Rattle.stateful_loop_laws.proofs.ways.Jobs.{WaysBehind-turns}
use Rattle.stateful_loop_laws.proofs.ways.Served.{WaysBehind-fetched}

module _ {B C I P R D H G U : Type 0} (w : Workings B C I P R D H G U) (laws : Laws w.kind) (stored : ℕ → Option (Named B)) (base : w.States)
    (p : Past B C I) (m now : Moment w) (x : Executes w stored base p m) (kept : WaysKept w stored p m.execution.state) where
  still : (e : Event B C I) → (IsRestart e → ⊥) → now.marks ≡ m.marks → now.execution.state ≡ m.execution.state
      → WaysBehind w stored (Came e ∷ p) m now
  still e off marks state = WaysBehind-still w stored (Came e ∷ p) m now marks state (WaysKept-came w stored p e off m.execution.state kept)

  -- The ways are kept after an event that is no restart, with which names are true.
  pub WaysBehind-takes_in : (stored_now : ℕ → Option (Named B)) (counts : Counts R D H) (e : Event B C I) → (IsRestart e → ⊥)
      → TrueNames (setting w stored) (Came e ∷ p) → TakesIn w stored_now counts m now e → WaysBehind w stored (Came e ∷ p) m now
  WaysBehind-takes_in stored_now counts e off names (intake.enters is becomes) =
      still e off (ap (λ (n : Moment w). n.marks) becomes) (ap (λ (n : Moment w). n.execution.state) becomes)
  WaysBehind-takes_in stored_now counts _ off names (intake.cancels {t = t} rule) = WaysBehind-cancels w stored p m now t kept rule
  WaysBehind-takes_in stored_now counts _ off names (intake.fetched {f = f} {answer = answer} {then = then} rule is) =
      WaysBehind-fetched w laws stored base p m now x f answer names kept stored_now then rule is
  WaysBehind-takes_in stored_now counts _ off names (intake.turns {j = j} rule) = WaysBehind-turns w stored base p m x kept j counts now rule
  WaysBehind-takes_in stored_now counts e off names (intake.flushes rule) =
      still e off (ap (λ (n : Moment w). n.marks) rule.becomes) (ap (λ (n : Moment w). n.execution.state) rule.becomes)
  WaysBehind-takes_in stored_now counts e off names (intake.stops is) =
      still e off (ap (λ (n : Moment w). n.marks) is) (ap (λ (n : Moment w). n.execution.state) is)
  WaysBehind-takes_in stored_now counts e off names (intake.progresses is) =
      still e off (ap (λ (n : Moment w). n.marks) is) (ap (λ (n : Moment w). n.execution.state) is)
  WaysBehind-takes_in stored_now counts e off names (intake.restarts is) = absurd (off tt)
