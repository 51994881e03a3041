-- Behind one step of the machine, whatever the event, it stands for the past with the entry.
use Rattle.std.proofs.Common.{◌≡◌, ◌⊎◌, ◌∷◌, [], inl, inr, ℕ, Bool, true, false, Option, refl, sym, subst}
use Rattle.stateful_base.specs.Names.{Named}
use Rattle.stateful_db.specs.Laws.{Laws}
use Rattle.stateful_history.specs.Live.{may_come}
use Rattle.stateful_history.specs.Met.{TrueNames}
use Rattle.stateful_history.specs.Past.{Past, Came, after_entry}
use Rattle.stateful_history.specs.Stops.{IsRestart}
use Rattle.stateful_history.specs.Honest.{StoresHeights, StoresFinalized, HasHonestStore}
use Rattle.stateful_history.specs.declared.event.Event.{Event}
use Rattle.stateful_history.specs.declared.event.Event.TheVariants.{Restart}
use Rattle.stateful_exec_model.specs.Workings.{Workings}
use Rattle.stateful_actor_register.specs.Register.{RegisterStands}
use Rattle.stateful_actor_register.specs.declared.register.Register.{Register}
use Rattle.stateful_exec_laws.specs.Building.{BuildsTakeTurns}
use Rattle.stateful_exec_laws.specs.Fronting.{RunsTakeTurns}
use Rattle.stateful_exec_laws.specs.Setting.{setting}
use Rattle.stateful_exec_laws.specs.Storing.{IsStoredNow}
use Rattle.stateful_loop_laws.specs.Places.{PastKept}
use Rattle.stateful_loop_model.specs.Intake.{Counts}
use Rattle.stateful_loop_model.specs.Moments.{Moment}
use Rattle.stateful_actor_laws.specs.Machine.{numbered, is_restart}
use Rattle.stateful_actor_laws.specs.Steps.{IsStep, Plays, Stops}
use Rattle.stateful_actor_laws.specs.Stands.{CanRestartAt, StandsAt, Stands}
use Rattle.stateful_actor_laws.specs.StepBehind.{StepBehind, Continues}
use Rattle.stateful_actor_laws.proofs.steps.Playing.{goes-on, stops}
use Rattle.stateful_actor_laws.proofs.steps.Restarted.{restarts}
use Rattle.stateful_actor_laws.proofs.steps.StoresBefore.{StoresFinalized-before_marks}

module _ {B C I P R D H G U : Type 0} (w : Workings B C I P R D H G U) (laws : Laws w.kind) (stored stored_now : ℕ → Option (Named B))
    (counts : Counts R D H) (provider : P) (runs_cost : RunsTakeTurns w) (builds_cost : BuildsTakeTurns w)
    (heights : StoresHeights w.header stored) (base : w.States) (p : Past B C I)
    (stored_is : IsStoredNow stored p stored_now) where
  plays : (event : Event B C I) → (IsRestart event → ⊥) → (register : Register) (m now : Moment w)
      → RegisterStands (numbered w.kind.count) p register → StandsAt w stored base p m → may_come (numbered w.kind.count) p event ≡ true
      → Plays w stored_now provider counts register event m now
      → TrueNames (setting w stored) (after_entry p event now.marks)
      → StoresFinalized w.header stored (Came event ∷ p) → StepBehind w stored base p event now
  plays event on register m now registered s may_come_is played names stores = behind played.ends
    where
      behind : ((played.settled.loop.up ≡ true) × (now ≡ played.settled)) ⊎ Stops w stored_now register event played.settled now
          → StepBehind w stored base p event now
      behind (inl still) = subst (λ (n : Moment w). StepBehind w stored base p event n) (sym still.1)
          (goes-on w laws stored base p stored_now stored_is counts provider runs_cost builds_cost event on may_come_is stores m played.settled s
          played.advances still.0 (subst (λ (n : Moment w). TrueNames (setting w stored) (after_entry p event n.marks)) still.1 names))
      behind (inr stopped) =
          stops w laws stored base p stored_now stored_is counts provider runs_cost builds_cost event on may_come_is stores m played.settled s
          played.advances register now registered stopped names

  -- The register stood for the past, the event may come behind it, and names are true with the entry. For a restart it is enough
  -- that the machine may be restarted, and that what a past keeps is kept.
  pub step-behind : (event : Event B C I) (register : Register) (m now : Moment w) → RegisterStands (numbered w.kind.count) p register
      → CanRestartAt w p m → PastKept w stored p → (is_restart event ≡ false → StandsAt w stored base p m) → may_come (numbered w.kind.count) p event ≡ true
      → IsStep w stored_now provider counts register event m now
      → TrueNames (setting w stored) (after_entry p event now.marks)
      → StoresFinalized w.header stored (Came event ∷ p) → StepBehind w stored base p event now
  step-behind (Restart floor keep) register m now registered r kept s may_come_is step names stores =
      restarts w laws stored base p stored_now stored_is heights floor keep m now r kept register registered step names
  step-behind event register m now registered r kept s may_come_is step names stores =
      plays event (λ no. no) register m now registered (s refl) may_come_is step names stores

-- Where the new register stands for the past with the entry, register and machine stand for it: names are true with it, and the store
-- is honest.
pub step-stands : {B C I P R D H G U : Type 0} (w : Workings B C I P R D H G U) (laws : Laws w.kind) (stored stored_now : ℕ → Option (Named B))
    (counts : Counts R D H) (provider : P) → RunsTakeTurns w → BuildsTakeTurns w
    → (base : w.States) (p : Past B C I) → IsStoredNow stored p stored_now
    → (event : Event B C I) (failed : Bool) (register new_register : Register) (m now : Moment w)
    → (is_restart event ≡ false → failed ≡ false) → Stands w stored base p failed register m
    → may_come (numbered w.kind.count) p event ≡ true → IsStep w stored_now provider counts register event m now
    → RegisterStands (numbered w.kind.count) (after_entry p event now.marks) new_register
    → TrueNames (setting w stored) (after_entry p event now.marks) → HasHonestStore w.header stored (after_entry p event now.marks)
    → Continues w stored base p event now new_register
step-stands w laws stored stored_now counts provider runs_cost builds_cost base p stored_is event failed register new_register m now works s
    may_come_is step registered names honest =
    let b : StepBehind w stored base p event now =
    step-behind w laws stored stored_now counts provider runs_cost builds_cost honest.heights base p stored_is event register m now s.registered
    s.restart s.past (λ other. s.at (works other)) may_come_is step names
    (StoresFinalized-before_marks w.header stored (Came event ∷ p) now.marks honest.finalized) in
    record { behind = b; stands = record { registered = registered; restart = b.stands.restart; past = b.stands.past; at = λ working. b.stands } }
