-- What the databases hold after an event that was refused, whatever past the machine stood for.
use Rattle.std.proofs.Common.{◌≡◌, ◌⊎◌, ◌++◌, ◌∷◌, [], inl, inr, ℕ, true, false, List, Option, refl, sym, ap, ◌∙◌}
use Rattle.stateful_base.specs.Names.{Named}
use Rattle.stateful_db.specs.Laws.{Laws}
use Rattle.stateful_history.specs.Live.{may_come}
use Rattle.stateful_history.specs.Met.{TrueNames}
use Rattle.stateful_history.specs.Past.{Past, Came, after_entry}
use Rattle.stateful_history.specs.Refusals.{HoldsFurther}
use Rattle.stateful_history.specs.Stops.{IsRestart}
use Rattle.stateful_history.specs.Honest.{HasHonestStore}
use Rattle.stateful_history.specs.declared.event.Event.{Event}
use Rattle.stateful_history.specs.declared.event.Event.TheVariants.{Restart}
use Rattle.stateful_history.specs.declared.mark.Mark.{Mark}
use Rattle.stateful_exec_model.specs.Workings.{Workings}
use Rattle.stateful_actor_register.specs.Register.{RegisterStands}
use Rattle.stateful_actor_register.specs.declared.register.Register.{Register}
use Rattle.stateful_exec_laws.specs.Building.{BuildsTakeTurns}
use Rattle.stateful_exec_laws.specs.Fronting.{RunsTakeTurns}
use Rattle.stateful_exec_laws.specs.Setting.{setting}
use Rattle.stateful_exec_laws.specs.Storing.{IsStoredNow}
use Rattle.stateful_loop_laws.proofs.media.HeldFurther.{further-kept, further-left}
use Rattle.stateful_loop_laws.proofs.events.NamesBehind.{NamesBehind-marks}
use Rattle.stateful_loop_laws.proofs.events.TakenIn.{may_come-live}
use Rattle.stateful_loop_model.specs.Intake.{Counts}
use Rattle.stateful_loop_model.proofs.Leaving.{keeps_same}
use Rattle.stateful_loop_model.specs.Left.{keeps}
use Rattle.stateful_loop_model.specs.Moments.{Moment}
use Rattle.stateful_actor_laws.specs.Left.{LeavesPlay, taking, going, LeavesFurther}
use Rattle.stateful_actor_laws.specs.Machine.{numbered, is_restart}
use Rattle.stateful_actor_laws.specs.Stands.{Stands}
use Rattle.stateful_actor_laws.specs.Steps.{Plays, Stops, IsStep}
use Rattle.stateful_actor_laws.proofs.work.LiveFlushes.{numbered_le, names_live-more}

-- an event that is no restart
isnt_restart : {B C I : Type 0} (event : Event B C I) → is_restart event ≡ false → IsRestart event → ⊥
isnt_restart (Restart floor keep) is h = cc
isnt_restart event is h = h

module _ {B C I P R D H G U : Type 0} (w : Workings B C I P R D H G U) (stored_now : ℕ → Option (Named B)) (provider : P)
    (counts : Counts R D H) (event : Event B C I) where
  -- all that could go on did, and memory ran out behind that
  plays-leave : (register : Register) (m now : Moment w) → Plays w stored_now provider counts register event m now
      → (made : List (Mark B)) × LeavesPlay w stored_now provider counts event m now.members made
  plays-leave register m now played = (
    played.advances.taken.marks,
    going played.advances.takes refl (record {
      reached = played.settled;
      along = played.advances.settles.along;
      left = keeps (keeps_same w played.settled.members now.members (sym (same played.ends)));
    }),
  )
    where
      same : ((played.settled.loop.up ≡ true) × (now ≡ played.settled)) ⊎ Stops w stored_now register event played.settled now
          → played.settled.members ≡ now.members
      same (inl still) = ap (λ (n : Moment w). n.members) (sym still.1)
      same (inr stopped) = sym stopped.cleared.rest.0

  -- so it is behind a step
  pub step-leaves : (register : Register) (m now : Moment w) → is_restart event ≡ false → IsStep w stored_now provider counts register event m now
      → (made : List (Mark B)) × LeavesPlay w stored_now provider counts event m now.members made
  step-leaves register m now other step = plays-leave register m now (of event other step)
    where
      of : (e : Event B C I) → is_restart e ≡ false → IsStep w stored_now provider counts register e m now
          → Plays w stored_now provider counts register e m now
      of (Restart floor keep) is s = cc
      of e is s = s

module _ {B C I P R D H G U : Type 0} (w : Workings B C I P R D H G U) (laws : Laws w.kind) (stored_now : ℕ → Option (Named B)) (provider : P)
    (counts : Counts R D H) (runs_cost : RunsTakeTurns w) (builds_cost : BuildsTakeTurns w) (event : Event B C I)
    (other : is_restart event ≡ false) (register : Register) (m : Moment w) (up : m.loop.up ≡ true) (unmarked : m.marks ≡ [])
    (may : (p : Past B C I) → RegisterStands (numbered w.kind.count) p register → may_come (numbered w.kind.count) p event ≡ true) where
  -- an event other than a restart was taken on by a machine that was up, and hadn't failed
  pub leaves-further : (new : w.kind.Members) (made : List (Mark B)) → LeavesPlay w stored_now provider counts event m new made
      → LeavesFurther w stored_now provider counts event register m new
  leaves-further new made left = record { made = made; left = left; holds = holds left }
    where
      on : IsRestart event → ⊥
      on = isnt_restart event other

      holds : LeavesPlay w stored_now provider counts event m new made → (stored : ℕ → Option (Named B)) (base : w.States) (p : Past B C I)
          → Stands w stored base p false register m → IsStoredNow stored p stored_now → TrueNames (setting w stored) (after_entry p event made)
          → HasHonestStore w.header stored (Came event ∷ p) → HoldsFurther (setting w stored) w.kind base p event new
      holds (taking same is) stored base p s stored_is names honest =
          further-kept w laws stored base p event on m new (((s.at refl).up up).0).executes same
      holds (going {taken = taken} takes is l) stored base p s stored_is names honest =
          let h = (s.at refl).up up in
          further-left w laws stored base p event on stored_now stored_is counts provider runs_cost builds_cost m taken l.reached new up h.1 h.0
          (names_live-more (numbered w.kind.count) w.kind.count (numbered_le w.kind.count) p event
          (may_come-live (numbered w.kind.count) p event on (may p s.registered)))
          (NamesBehind-marks w stored base (Came event ∷ p) m taken made (sym is ∙ ap (λ (ms : List (Mark B)). ms ++ made) (sym unmarked)) names)
          honest.finalized takes l.along l.left

-- where the machine was up, and the databases are as they were
pub unmoved-further : {B C I P R D H G U : Type 0} (w : Workings B C I P R D H G U) (laws : Laws w.kind) (stored_now : ℕ → Option (Named B))
    (provider : P) (counts : Counts R D H) (event : Event B C I) → is_restart event ≡ false → (register : Register) (m : Moment w)
    → m.loop.up ≡ true → LeavesFurther w stored_now provider counts event register m m.members
unmoved-further w laws stored_now provider counts event other register m up = record {
  made = m.marks;
  left = taking (keeps_same w m.members m.members refl) refl;
  holds = λ stored base p s stored_is names honest.
      further-kept w laws stored base p event (isnt_restart event other) m m.members (((s.at refl).up up).0).executes
      (keeps_same w m.members m.members refl);
}
