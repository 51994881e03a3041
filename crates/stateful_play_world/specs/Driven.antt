-- What came of events that a machine took in from its start on, up to one that was refused.
use Rattle.std.specs.Prelude.{◌≡◌, ◌≢◌, ℕ, List, Option, Some, None, map}
use Rattle.stateful_base.specs.Names.{Named}
use Rattle.stateful_history.specs.declared.entry.Entry.{Entry}
use Rattle.stateful_history.specs.declared.event.Event.{Event}
use Rattle.stateful_exec_model.specs.Workings.{Workings}
use Rattle.stateful_loop_model.specs.Intake.{Counts}
use Rattle.stateful_loop_model.specs.declared.error.StepError.TheVariants.{OutOfMemory}
use Rattle.stateful_actor_step.specs.Reading.{Node}
use Rattle.stateful_actor.specs.Driving.{TakesEvents, HaltsAt}
use Rattle.stateful_actor.specs.declared.driving.Halted.{Halted}

module _ {B C I P R D H G U : Type 0} (w : Workings B C I P R D H G U)
    (stored : ℕ → Option (Named B))
    (provider : P) (counts : Counts R D H) (events : List (Event B C I)) (first : Node w)
    (entries : List (Entry B C I)) (last : Node w) where
  -- All events were taken in; or those before the one of a number, which was refused, and not for
  -- want of memory.
  abbrev pub CameOf : Option Halted → Type 0
  CameOf None =
      (map (λ entry. entry.event) entries ≡ events)
      × TakesEvents w stored provider counts first entries last
  CameOf (Some halted) =
      HaltsAt w stored provider counts first entries last events halted
      × (halted.error ≢ OutOfMemory)
