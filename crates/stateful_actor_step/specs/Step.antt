-- What one event does to a machine beside its databases, and what one that is refused leaves.
use Rattle.std.specs.Prelude.{◌≡◌, ◌<◌, ◌^◌, ◌∷◌, ℕ, Bool, true, false, Option, Some, List}
use Rattle.stateful_base.specs.Names.{Named}
use Rattle.stateful_base.specs.declared.floor.Floor.{Floor}
use Rattle.stateful_history.specs.Finalizations.{applied_in}
use Rattle.stateful_history.specs.Honest.{HasHonestStore}
use Rattle.stateful_history.specs.Live.{may_come}
use Rattle.stateful_history.specs.Met.{TrueNames}
use Rattle.stateful_history.specs.Opening.{base_after}
use Rattle.stateful_history.specs.Past.{Past, Came, after_entry}
use Rattle.stateful_history.specs.Restarts.{reopened_height, CanReopen, Finds}
use Rattle.stateful_history.specs.declared.event.Event.{Event}
use Rattle.stateful_history.specs.declared.event.Event.TheVariants.{Restart}
use Rattle.stateful_history.specs.declared.mark.Mark.{Mark}
use Rattle.stateful_exec_model.specs.Workings.{Workings}
use Rattle.stateful_actor_register.specs.Register.{RegisterStands}
use Rattle.stateful_exec_laws.specs.Setting.{setting}
use Rattle.stateful_exec_laws.specs.Storing.{IsStoredNow}
use Rattle.stateful_loop_laws.specs.Media.{TargetsRise}
use Rattle.stateful_loop_model.specs.Intake.{Counts}
use Rattle.stateful_loop_model.specs.Noted.{noted_all}
use Rattle.stateful_loop_model.specs.declared.error.StepError.{StepError}
use Rattle.stateful_loop_model.specs.declared.error.StepError.TheVariants.{BadEvent, Failed}
use Rattle.stateful_loop_model.specs.declared.error.StepError.TheVariants.{OutOfMemory}
use Rattle.stateful_actor_laws.specs.Ahead.{IsAheadLawfully}
use Rattle.stateful_actor_laws.specs.Completeness.{ComesLawfully}
use Rattle.stateful_actor_laws.specs.Left.{LeavesFurther}
use Rattle.stateful_actor_laws.specs.Machine.{is_restart, numbered}
use Rattle.stateful_actor_laws.specs.Media.{MediaStand, TargetsName, OpensOn, LeavesMedia}
use Rattle.stateful_actor_laws.specs.Outside.{IsOutside}
use Rattle.stateful_actor_laws.specs.Restarting.{RestartsLawfully}
use Rattle.stateful_actor_laws.specs.Stands.{Stands, StandsAsWell}
use Rattle.stateful_actor_laws.specs.StepBehind.{Continues}
use Rattle.stateful_actor_laws.specs.Steps.{IsStep}
use Rattle.stateful_actor_step.specs.Faults.{IsCause, NoneFailed}
use Rattle.stateful_actor_step.specs.Notes.{HasObserved, NotesRefused}
use Rattle.stateful_actor_step.specs.Reading.{Node}

-- the world is true over a past: names are true, and the store is honest
pub record WorldIsTrue {B C I P R D H G U : Type 0} (w : Workings B C I P R D H G U)
    (stored : ℕ → Option (Named B)) (p : Past B C I) : Type 0 where
  pub names : TrueNames (setting w stored) p
  pub honest : HasHonestStore w.header stored p

module _ {B C I P R D H G U : Type 0} (w : Workings B C I P R D H G U)
    (stored_now : ℕ → Option (Named B)) (provider : P) (counts : Counts R D H)
    (event : Event B C I) (old new : Node w) where
  -- A restart at a height at which the databases can be opened again: the media stood for this
  -- past, the fold from genesis up to that height is there and has the targets of the block
  -- there, which the store has, and no database failed.
  pub record IsReopening (stored : ℕ → Option (Named B)) (p : Past B C I) (floor : Floor)
      (keep : List ℕ) (genesis state : w.States) (block : Named B) : Type 0 where
    pub is : event ≡ Restart floor keep
    pub can : CanReopen (reopened_height floor) p
    pub media : MediaStand w stored p old.failed old.at
    pub finds : Finds (setting w stored) genesis (reopened_height floor) block state
    pub is_stored : stored_now (reopened_height floor) ≡ Some block
    pub well : NoneFailed w.kind.count old.faults new.faults

  module _ (marks : List (Mark B)) where
    -- The machine stood for a past, and the world is true with the entry: then it stands for that
    -- with the entry added. True verdicts are earned, only durable heights are acknowledged, the
    -- databases hold what was applied, and all that is unanswered waits. The media keep the
    -- heights at which the databases can be opened again, where they kept them and targets rise.
    -- And the finalized blocks that wait lead up to the highest one, where they did, as long as
    -- each event since the last restart was lawful.
    pub record StandsWithEntry (stored : ℕ → Option (Named B)) (base : w.States) (p : Past B C I)
        : Type 0 where
      pub continues : Continues w stored base p event (record new.at { marks = marks })
          new.register
      pub media : MediaStand w stored p old.failed old.at
          → TargetsRise w stored
          → MediaStand w stored (after_entry p event marks) false new.at
      pub ahead : IsAheadLawfully w stored base p old.at
          → IsAheadLawfully w stored (base_after base marks (w.kind.point new.at.members))
          (after_entry p event marks) new.at

    -- The event was taken in, and what could go on has gone on, with these marks.
    pub record TakesEvent : Type 0 where
      pub does : IsStep w stored_now provider counts old.register event old.at
          (record new.at { marks = marks })
      pub works : new.failed ≡ false
      -- it may come behind whatever the register stood for, and the register stands for that with
      -- the entry added
      pub registers : (p : Past B C I)
          → RegisterStands (numbered w.kind.count) p old.register
          → (may_come (numbered w.kind.count) p event ≡ true)
          × RegisterStands (numbered w.kind.count) (after_entry p event marks) new.register
      pub stands : (stored : ℕ → Option (Named B)) (base : w.States) (p : Past B C I)
          → Stands w stored base p old.failed old.register old.at
          → IsStoredNow stored p stored_now
          → WorldIsTrue w stored (after_entry p event marks)
          → StandsWithEntry stored base p
      -- where equal targets name equal states, such a restart opens the databases on the fold
      pub reopens : (stored : ℕ → Option (Named B)) (p : Past B C I) (floor : Floor)
          (keep : List ℕ) (genesis state : w.States) (block : Named B)
          → IsReopening stored p floor keep genesis state block
          → TargetsName w
          → OpensOn w marks new.at.members state
      -- the notes become `noted` along the blocks that were applied, in their order
      pub notes : (p : Past B C I)
          → RegisterStands (numbered w.kind.count) p old.register
          → HasObserved old.failed old.at.loop.front
          → new.notes ≡ noted_all w.works.noted old.notes (applied_in marks)

  module _ (e : StepError) where
    -- The machine stood for a past: then it doesn't answer `Failed` where it hadn't failed; and
    -- where an event other than a restart is lawful, behind lawful ones since the last restart,
    -- it is refused only where memory or numbers ran out, the application or a job of it failed,
    -- or a database did and has counted it.
    pub record RefusesRightly (stored : ℕ → Option (Named B)) (base : w.States) (p : Past B C I)
        : Type 0 where
      pub working : e ≡ Failed → ⊥
      pub complete : is_restart event ≡ false
          → IsStoredNow stored p stored_now
          → HasHonestStore w.header stored (Came event ∷ p)
          → IsAheadLawfully w stored base p old.at
          → ComesLawfully w stored base p stored_now counts old.at event
          → w.kind.count < 2 ^ 64
          → IsOutside old.faults.databases new.faults.databases e

    -- The event was refused with this error.
    pub record RefusesEvent : Type 0 where
      pub cause : IsCause w stored_now provider counts old.failed old.register event old.faults
          new.faults new.at.members old.at e
      -- the register, and the machine in what a restart needs, stand for what they stood for
      pub register : (p : Past B C I) → RegisterStands (numbered w.kind.count) p old.register
          → RegisterStands (numbered w.kind.count) p new.register
      pub still : StandsAsWell w old.failed old.register old.at new.failed new.register new.at
      pub rightly : old.failed ≡ false
          → (stored : ℕ → Option (Named B)) (base : w.States) (p : Past B C I)
          → Stands w stored base p old.failed old.register old.at
          → RefusesRightly stored base p
      -- After any other error than BadEvent, at an event that isn't a restart, of a machine that
      -- hadn't failed, each database that is here has its part of the fold over what was applied,
      -- and over further blocks, if any: the event may have applied some before its error.
      pub behind : (e ≡ BadEvent → ⊥) → old.failed ≡ false → is_restart event ≡ false
          → LeavesFurther w stored_now provider counts event old.register old.at new.at.members
      -- machine and media stand for the past as it was, with a restart that was tried
      pub tried : LeavesMedia w stored_now provider counts event old.failed old.register old.at
          new.failed new.register new.at
      -- A restart that finds the block that it opens in the store, and of each database a
      -- checkpoint at that block's targets, is refused for want of memory alone, where none
      -- failed. So is one at a height at which the databases can be opened again.
      pub restarts : (floor : Floor) (keep : List ℕ)
          → event ≡ Restart floor keep
          → RestartsLawfully w stored_now floor keep old.at.members
          → NoneFailed w.kind.count old.faults new.faults
          → e ≡ OutOfMemory
      pub reopens : (stored : ℕ → Option (Named B)) (p : Past B C I) (floor : Floor)
          (keep : List ℕ) (genesis state : w.States) (block : Named B)
          → IsReopening stored p floor keep genesis state block
          → e ≡ OutOfMemory
      -- but for want of memory, the notes are `noted` along some first ones, or none, of the
      -- blocks that the event applied
      pub noted : (e ≡ OutOfMemory → ⊥)
          → NotesRefused w stored_now provider w.works.noted old.notes new.notes counts event
          old.at
