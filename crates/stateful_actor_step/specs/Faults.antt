-- Why an event is refused.
use Rattle.std.specs.Prelude.{◌≡◌, ◌≤◌, ◌<◌, ◌^◌, ℕ, Bool, true, false, not, Option}
use Rattle.stateful_base.specs.Causes.{Rose}
use Rattle.stateful_base.specs.Names.{Named}
use Rattle.stateful_history.specs.Live.{may_come}
use Rattle.stateful_history.specs.Opening.{is_down}
use Rattle.stateful_history.specs.Past.{Past}
use Rattle.stateful_history.specs.declared.event.Event.{Event}
use Rattle.stateful_history.specs.declared.event.Event.TheVariants.{Restart}
use Rattle.stateful_exec_model.specs.Workings.{Workings}
use Rattle.stateful_exec_tables.specs.Tables.{Rises}
use Rattle.stateful_actor_register.specs.Register.{RegisterStands}
use Rattle.stateful_actor_register.specs.declared.register.Register.{Register}
use Rattle.stateful_loop_model.specs.Causes.{FaultsRule}
use Rattle.stateful_loop_model.specs.Intake.{Counts, TakesIn, FaultsIntake}
use Rattle.stateful_loop_model.specs.Moments.{Moment}
use Rattle.stateful_loop_model.specs.Opening.{FaultsOpening}
use Rattle.stateful_loop_model.specs.Rules.{Along}
use Rattle.stateful_loop_model.specs.declared.error.StepError.{StepError}
use Rattle.stateful_loop_model.specs.declared.error.StepError.TheVariants.{BadEvent, Failed}
use Rattle.stateful_loop_model.specs.declared.error.StepError.TheVariants.{OutOfMemory}
use Rattle.stateful_actor_laws.specs.Machine.{numbered, is_restart}

-- how often the application has failed, and the database of each number
pub record Tally : Type 0 where
  pub application : ℕ
  pub databases : ℕ → ℕ

abbrev pub tally : ℕ → (ℕ → ℕ) → Tally
tally application databases = record { application = application; databases = databases }

-- no count has fallen
pub record HasNotFallen (before now : Tally) : Type 0 where
  pub application : before.application ≤ now.application
  pub databases : (i : ℕ) → before.databases i ≤ now.databases i

-- of fewer than 2^64 databases the count of none rose
pub record NoneFailed (count : ℕ) (before now : Tally) : Type 0 where
  pub few : count < 2 ^ 64
  pub none : (i : ℕ) → i < count → Rose (before.databases i) (now.databases i) → ⊥

-- no count falls, and neither does the number of the next job, fetch or barrier
pub record NeverFalls {B C I P R D H G U : Type 0} {w : Workings B C I P R D H G U}
    (before now : Tally) (m later : Moment w) : Type 0 where
  pub faults : HasNotFallen before now
  pub numbers : Rises m.execution.state later.execution.state
  pub barriers : m.loop.next_barrier ≤ later.loop.next_barrier

module _ {B C I P R D H G U : Type 0} (w : Workings B C I P R D H G U)
    (stored : ℕ → Option (Named B))
    (provider : P) where
  -- Rules went, one after another, and the next one that could go didn't: no count had fallen
  -- before it.
  pub record FaultsSettling (start «end» : Tally) (new : w.kind.Members) (m : Moment w)
      (e : StepError) : Type 0 where
    pub reached : Moment w
    pub along : Along w stored provider m reached
    pub before : Tally
    pub later : HasNotFallen start before
    pub fault : FaultsRule w stored
        (Rose before.application «end».application) before.databases «end».databases new reached e

  -- The event wasn't taken in; or it was, and then something that could go on didn't; or memory ran
  -- out.
  pub data FaultsPlay (counts : Counts R D H) (start «end» : Tally) (new : w.kind.Members)
      (m : Moment w)
      (event : Event B C I) (e : StepError) : Type 0 where
    memory : e ≡ OutOfMemory → FaultsPlay counts start «end» new m event e
    taking : FaultsIntake w stored counts
        (Rose start.application «end».application) start.databases «end».databases new m e event
        → FaultsPlay counts start «end» new m event e
    going : {taken : Moment w} {between : Tally} → TakesIn w stored counts m taken event
        → HasNotFallen start between
        → FaultsSettling between «end» new taken e → FaultsPlay counts start «end» new m event e

  -- why what an event does isn't done
  abbrev pub FaultsStep : Counts R D H
      → (start «end» : Tally)
      → w.kind.Members
      → Moment w
      → Event B C I
      → StepError → Type 0
  FaultsStep counts start «end» new m (Restart floor keep) e =
      FaultsOpening w stored floor keep start.databases «end».databases m.members new e
  FaultsStep counts start «end» new m event e = FaultsPlay counts start «end» new m event e

  -- An event is refused where memory ran out; where the machine has failed and the event isn't a
  -- restart; where the event may not come; and where it may come, and what it does isn't done.
  pub data IsCause (counts : Counts R D H) (failed : Bool) (register : Register)
      (event : Event B C I)
      (start «end» : Tally) (new : w.kind.Members) (m : Moment w) (e : StepError) : Type 0 where
    memory : e ≡ OutOfMemory → IsCause counts failed register event start «end» new m e
    failed_before : e ≡ Failed → failed ≡ true → is_restart event ≡ false
        → IsCause counts failed register event start «end» new m e
    unlawful : e ≡ BadEvent
        → ((p : Past B C I)
        → RegisterStands (numbered w.kind.count) p register
        → m.loop.up ≡ not (is_down p)
        → may_come (numbered w.kind.count) p event ≡ false)
        → IsCause counts failed register event start «end» new m e
    fault : ((p : Past B C I) → RegisterStands (numbered w.kind.count) p register
        → may_come (numbered w.kind.count) p event ≡ true)
        → FaultsStep counts start «end» new m event e
        → IsCause counts failed register event start «end» new m e
