-- What one event does.
use Rattle.std.specs.Prelude.{◌≡◌, ◌⊎◌, ◌++◌, ◌∷◌, [], ℕ, true, false, Option, List}
use Rattle.stateful_base.specs.Names.{Named}
use Rattle.stateful_base.specs.declared.floor.Floor.{Floor}
use Rattle.stateful_history.specs.Past.{Past, after_entry}
use Rattle.stateful_history.specs.declared.event.Event.{Event}
use Rattle.stateful_history.specs.declared.event.Event.TheVariants.{Restart}
use Rattle.stateful_history.specs.declared.mark.Mark.{Mark}
use Rattle.stateful_history.specs.declared.mark.Mark.TheVariants.{Stopped}
use Rattle.stateful_exec_model.specs.Workings.{Workings}
use Rattle.stateful_actor_register.specs.Ends.{EndsAll, LeavesNothing}
use Rattle.stateful_actor_register.specs.Register.{RegisterStands}
use Rattle.stateful_actor_register.specs.declared.register.Register.{Register}
use Rattle.stateful_loop_model.specs.Clearing.{IsCleared}
use Rattle.stateful_loop_model.specs.Intake.{Counts, TakesIn}
use Rattle.stateful_loop_model.specs.Moments.{Moment}
use Rattle.stateful_loop_model.specs.Opening.{Opens}
use Rattle.stateful_loop_model.specs.Rules.{Along, Quiet}
use Rattle.stateful_actor_laws.specs.Machine.{numbered}

module _ {B C I : Type 0} (count : ℕ) (register : Register) where
  -- after an event with these marks all live work ends by further ones, whatever past the register
  -- stands for
  abbrev pub EndsWork : Event B C I → (marks now : List (Mark B)) → Type 0
  EndsWork event marks now = (p : Past B C I) → RegisterStands (numbered count) p register
      → (ends : List (Mark B))
      × (now ≡ marks ++ ends)
      × EndsAll (after_entry p event marks) ends
      × LeavesNothing (after_entry p event marks) ends

module _ {B C I P R D H G U : Type 0} (w : Workings B C I P R D H G U)
    (stored : ℕ → Option (Named B)) where
  -- one thing after another goes on, until nothing can without another event
  pub record Settles (provider : P) (m now : Moment w) : Type 0 where
    pub along : Along w stored provider m now
    pub quiet : Quiet w now

  -- The machine isn't up any more: all live work ends, the last mark says that it has stopped, and
  -- nothing goes on.
  pub record Stops (register : Register) (event : Event B C I) (m now : Moment w) : Type 0 where
    pub down : m.loop.up ≡ false
    pub ends : List (Mark B)
    pub work : EndsWork w.kind.count register event m.marks ends
    pub marks_are : now.marks ≡ ends ++ Stopped ∷ []
    pub cleared : IsCleared w (record m { marks = now.marks }) now

  -- An event is taken in, and then goes on what can.
  pub record Advances (provider : P) (counts : Counts R D H) (event : Event B C I)
      (m now : Moment w) : Type 0 where
    pub taken : Moment w
    pub takes : TakesIn w stored counts m taken event
    pub settles : Settles provider taken now

  -- A machine that isn't up any more behind that stops.
  pub record Plays (provider : P) (counts : Counts R D H) (register : Register)
      (event : Event B C I)
      (m now : Moment w) : Type 0 where
    pub settled : Moment w
    pub advances : Advances provider counts event m settled
    pub ends : ((settled.loop.up ≡ true) × (now ≡ settled)) ⊎ Stops register event settled now

  -- A restart: all live work ends, and the databases open on what a crash has left of them.
  pub record Restarts (register : Register) (event : Event B C I) (floor : Floor) (keep : List ℕ)
      (m now : Moment w) : Type 0 where
    pub cleared : Moment w
    pub work : EndsWork w.kind.count register event m.marks cleared.marks
    pub clears : IsCleared w (record m { marks = cleared.marks }) cleared
    pub opens : Opens w stored floor keep cleared now

  -- what an event does
  abbrev pub IsStep : P → Counts R D H → Register → Event B C I → (m now : Moment w) → Type 0
  IsStep provider counts register (Restart floor keep) m now =
      Restarts register (Restart floor keep) floor keep m now
  IsStep provider counts register event m now = Plays provider counts register event m now
