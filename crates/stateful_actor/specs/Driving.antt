-- Events that were refused after a history.
use Rattle.std.specs.Prelude.{◌≡◌, ◌<◌, ◌⊎◌, ◌^◌, ◌∷◌, ◌++◌, ℕ, Bool, true, false, Option, List, []}
use Rattle.std.specs.Prelude.{map, length, take}
use Rattle.stateful_base.specs.Names.{Named}
use Rattle.stateful_base.specs.declared.floor.Floor.{Floor}
use Rattle.stateful_history.specs.Met.{TrueNames}
use Rattle.stateful_history.specs.Past.{Past, Came, after_entry, after_all}
use Rattle.stateful_history.specs.Honest.{HasHonestStore}
use Rattle.stateful_history.specs.declared.entry.Entry.{Entry}
use Rattle.stateful_history.specs.declared.event.Event.{Event}
use Rattle.stateful_history.specs.declared.event.Event.TheVariants.{Restart}
use Rattle.stateful_history.specs.declared.mark.Mark.{Mark}
use Rattle.stateful_exec_model.specs.Workings.{Workings}
use Rattle.stateful_actor_register.specs.Register.{RegisterStands}
use Rattle.stateful_actor_register.specs.declared.register.Register.{Register}
use Rattle.stateful_exec_laws.specs.Setting.{setting}
use Rattle.stateful_exec_laws.specs.Storing.{IsStoredNow}
use Rattle.stateful_loop_laws.specs.Media.{TargetsRise}
use Rattle.stateful_loop_model.specs.Intake.{Counts}
use Rattle.stateful_loop_model.specs.Moments.{Moment}
use Rattle.stateful_loop_model.specs.declared.error.StepError.{StepError}
use Rattle.stateful_loop_model.specs.declared.error.StepError.TheVariants.{BadEvent, Failed}
use Rattle.stateful_loop_model.specs.declared.error.StepError.TheVariants.{OutOfMemory}
use Rattle.stateful_actor_step.specs.Faults.{Tally, HasNotFallen, NoneFailed, IsCause}
use Rattle.stateful_actor_step.specs.Notes.{applied_along, NotesRefused, NotesAfter}
use Rattle.stateful_actor_step.specs.Reading.{Node}
use Rattle.stateful_actor_step.specs.Step.{WorldIsTrue}
use Rattle.stateful_loop_model.specs.Noted.{noted_all}
use Rattle.stateful_actor.specs.declared.driving.Halted.{Halted}
use Rattle.stateful_actor_laws.specs.Left.{LeavesPlay, LeavesFurther, LeavesBehind}
use Rattle.stateful_actor_laws.specs.Machine.{numbered, is_restart, IsSafe}
use Rattle.stateful_actor_laws.specs.Media.{behind_refusal, MediaStand, StandsOnMedia}
use Rattle.stateful_actor_laws.specs.Entering.{Steps}
use Rattle.stateful_actor_laws.specs.Stands.{StandsAsWell}
use Rattle.stateful_actor_laws.specs.StepBehind.{EachStands, StandsAndHolds}
use Rattle.stateful_actor_laws.specs.Completeness.{ComesLawfully}
use Rattle.stateful_actor_laws.specs.Outside.{IsOutside}
use Rattle.stateful_actor_laws.specs.Restarting.{RestartsLawfully}

module _ {B C I P R D H G U : Type 0} (w : Workings B C I P R D H G U)
    (stored : ℕ → Option (Named B)) where
  -- Where the event is a restart that finds what it needs, and no count of a database's faults
  -- rose, it was refused for want of memory: of fewer than 2^64 databases.
  abbrev pub RefusesRestart : (before now : Tally) → Event B C I → StepError → Moment w → Type 0
  RefusesRestart before now event e old = (floor : Floor) (keep : List ℕ)
      → event ≡ Restart floor keep
      → RestartsLawfully w stored floor keep old.members
      → NoneFailed w.kind.count before now
      → e ≡ OutOfMemory

module _ {B C I P R D H G U : Type 0} (w : Workings B C I P R D H G U)
    (stored : ℕ → Option (Named B))
    (provider : P) (counts : Counts R D H) where
  -- Where the event is lawful, and each since the last restart was, it was refused for a reason
  -- outside of the machine: over the states on which the history is based at last, of fewer than
  -- 2^64 databases.
  abbrev pub RefusesLawful : (before now : ℕ → ℕ) → List (Entry B C I) → Event B C I → StepError
      → Moment w
      → Type 0
  RefusesLawful before now history event e old = (base : w.States)
      → w.kind.count < 2 ^ 64
      → TrueNames (setting w stored) (after_all [] history)
      → HasHonestStore w.header stored (Came event ∷ after_all [] history)
      → EachStands w stored
      (λ last. ComesLawfully w stored last (after_all [] history) stored counts old event
      → IsOutside before now e)
      base [] history

  -- The event that was refused after a history, and why: the machine before it, to which the
  -- entries led from the first moment on, and the cause that it had. Counts have not fallen since
  -- the start. And what it left of the databases, unless it may not come, is a restart, or the
  -- machine was down. A lawful event has its reason outside, and it never is that the machine has
  -- failed.
  pub record IsRefused (first : Moment w) (history : List (Entry B C I)) (event : Event B C I)
      (e : StepError)
      (m : w.kind.Members) (start «end» : Tally) : Type 0 where
    pub register : Register
    pub old : Moment w
    pub steps : Steps w stored provider counts [] first history old
    pub registered : RegisterStands (numbered w.kind.count) (after_all [] history) register
    pub before : Tally
    pub later : HasNotFallen start before
    pub cause : IsCause w stored provider counts false register event before «end» m old e
    pub behind : (e ≡ BadEvent → ⊥) → is_restart event ≡ false → old.loop.up ≡ true
        → LeavesBehind w stored provider counts event history old m
    pub complete : is_restart event ≡ false
        → RefusesLawful before.databases «end».databases history event e old
    pub restarts : RefusesRestart w stored before «end» event e old
    pub works : w.States
        → TrueNames (setting w stored) (after_all [] history)
        → HasHonestStore w.header stored (after_all [] history)
        → e ≡ Failed
        → ⊥

module _ {B C I P R D H G U : Type 0} (w : Workings B C I P R D H G U)
    (stored : ℕ → Option (Named B))
    (provider : P) (counts : Counts R D H) (event : Event B C I) where
  -- What an event that was refused left of the media, with the marks that its intake made, if it
  -- made any. Where machine and media stood for a past, names are true with the event and these
  -- marks, the store is honest, its targets rise, and databases are fewer than 2^64, the media
  -- stand for that past, with a restart that was tried.
  pub record KeepsMedia (failed : Bool) (register : Register) (m : Moment w) (now_failed : Bool)
      (now : Moment w) : Type 0 where
    pub made : List (Mark B)
    pub left : (made ≡ []) ⊎ LeavesPlay w stored provider counts event m now.members made
    pub media : (base : w.States)
        (p : Past B C I)
        → StandsOnMedia w stored base p failed register m
        → IsStoredNow stored p stored
        → TrueNames (setting w stored) (after_entry p event made)
        → HasHonestStore w.header stored (Came event ∷ p)
        → TargetsRise w stored
        → w.kind.count < 2 ^ 64
        → MediaStand w stored (behind_refusal event p) now_failed now

  -- The same after a history that began with a new machine, where the media stood for the start.
  pub record KeepsMediaAfter (first_failed : Bool) (first : Moment w)
      (history : List (Entry B C I))
      (now_failed : Bool) (now : Moment w) : Type 0 where
    pub made : List (Mark B)
    pub old : Moment w
    pub steps : Steps w stored provider counts [] first history old
    pub left : (made ≡ []) ⊎ LeavesPlay w stored provider counts event old now.members made
    pub media : w.States
        → MediaStand w stored [] first_failed first
        → TrueNames (setting w stored) (after_entry (after_all [] history) event made)
        → HasHonestStore w.header stored (Came event ∷ after_all [] history)
        → TargetsRise w stored
        → w.kind.count < 2 ^ 64
        → MediaStand w stored (behind_refusal event (after_all [] history)) now_failed now

-- An event was refused with this error by a machine that hadn't failed, before it was stepped or in
-- the step.
pub record RefusesEntry {B C I P R D H G U : Type 0} (w : Workings B C I P R D H G U)
    (stored : ℕ → Option (Named B))
    (provider : P) (counts : Counts R D H) (event : Event B C I) (old new : Node w) (e : StepError)
    : Type 0 where
  pub cause : IsCause w stored provider counts false old.register event old.faults new.faults
      new.at.members old.at e
  pub still : StandsAsWell w old.failed old.register old.at new.failed new.register new.at
  pub behind : (e ≡ BadEvent → ⊥) → is_restart event ≡ false → old.at.loop.up ≡ true
      → LeavesFurther w stored provider counts event old.register old.at new.at.members
  pub restarts : RefusesRestart w stored old.faults new.faults event e old.at
  pub media : KeepsMedia w stored provider counts event old.failed old.register old.at new.failed
      new.at
  pub noted : (e ≡ OutOfMemory → ⊥)
      → NotesRefused w stored provider w.works.noted old.notes new.notes counts event old.at

module _ {B C I P R D H G U : Type 0} (w : Workings B C I P R D H G U)
    (stored : ℕ → Option (Named B))
    (provider : P) (counts : Counts R D H) (first : Node w) (history : List (Entry B C I))
    (last : Node w) where
  -- A new machine took in the events of this history, one after another. Each entry is one step of
  -- it, from its start on.
  pub record TakesEvents : Type 0 where
    pub steps : Steps w stored provider counts [] first.at history last.at
    -- Where the world is true each entry keeps the rules, and at the end the machine stands for the
    -- history, and the databases hold what was applied.
    pub stands : (base : w.States)
        → WorldIsTrue w stored (after_all [] history)
        → EachStands w stored
        (λ at. StandsAndHolds w stored at (after_all [] history) false last.register last.at)
        base [] history
    -- the media keep what can be opened again, where they stood for the start and targets rise
    pub media : w.States
        → MediaStand w stored [] first.failed first.at
        → WorldIsTrue w stored (after_all [] history)
        → TargetsRise w stored
        → MediaStand w stored (after_all [] history) last.failed last.at
    -- the notes are `noted` along the blocks that were applied, in their order
    pub notes : last.notes ≡ noted_all w.works.noted first.notes (applied_along history)
    -- the machine works, its register stands for the history, and it may be called again with these
    -- databases
    pub works : last.failed ≡ false
    pub registered : RegisterStands (numbered w.kind.count) (after_all [] history) last.register
    pub safe : IsSafe w last.failed last.at

  -- The event behind these was refused with this error.
  pub record RefusesNext (event : Event B C I) (e : StepError) : Type 0 where
    -- why, and what it left of the databases
    pub refused : IsRefused w stored provider counts first.at history event e last.at.members
        first.faults last.faults
    -- Where the world is true each entry before keeps the rules, and the machine still stands for
    -- them in what a restart needs; behind BadEvent it hasn't failed.
    pub stands : (base : w.States)
        → WorldIsTrue w stored (after_all [] history)
        → EachStands w stored
        (λ at. StandsAndHolds w stored at (after_all [] history) last.failed last.register last.at)
        base [] history
    pub works : e ≡ BadEvent → last.failed ≡ false
    pub media : KeepsMediaAfter w stored provider counts event first.failed first.at history
        last.failed last.at
    -- but for want of memory, the notes are also `noted` along some first ones, or none, of the
    -- blocks that the event applied
    pub noted : (e ≡ OutOfMemory → ⊥)
        → NotesAfter w stored provider counts w.works.noted first.notes last.notes first.at history
        event
    pub safe : IsSafe w last.failed last.at

  -- One of the events was refused, and those before it are the history.
  pub record HaltsAt (events : List (Event B C I)) (halted : Halted) : Type 0 where
    pub event : Event B C I
    pub rest : List (Event B C I)
    pub events_are : events ≡ map (λ entry. entry.event) history ++ event ∷ rest
    pub taken : map (λ entry. entry.event) history ≡ take halted.at events
    pub at : halted.at ≡ length history
    pub within : halted.at < length events
    pub refuses : RefusesNext event halted.error
