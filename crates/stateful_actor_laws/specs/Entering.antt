-- Histories that events add to, one after another.
use Rattle.std.specs.Prelude.{◌≡◌, ℕ, true, Option, List, [], ◌∷◌}
use Rattle.stateful_base.specs.Names.{Named}
use Rattle.stateful_history.specs.Live.{may_come}
use Rattle.stateful_history.specs.Past.{Past, after_entry}
use Rattle.stateful_history.specs.declared.entry.Entry.{Entry}
use Rattle.stateful_history.specs.declared.event.Event.{Event}
use Rattle.stateful_exec_model.specs.Workings.{Workings}
use Rattle.stateful_actor_register.specs.Register.{RegisterStands}
use Rattle.stateful_actor_register.specs.declared.register.Register.{Register}
use Rattle.stateful_loop_model.specs.Intake.{Counts}
use Rattle.stateful_loop_model.specs.Moments.{Moment}
use Rattle.stateful_actor_laws.specs.Machine.{numbered}
use Rattle.stateful_actor_laws.specs.Steps.{IsStep}

module _ {B C I P R D H G U : Type 0} (w : Workings B C I P R D H G U)
    (stored : ℕ → Option (Named B))
    (provider : P) (counts : Counts R D H) where
  -- From one moment after a past on, the entries were taken in one after another: each event may
  -- come behind those before it, its entry has the marks of its step, and the register stood for
  -- those before it. And so on to the moment behind the last one.
  abbrev pub Steps : Past B C I → Moment w → List (Entry B C I) → Moment w → Type 0
  Steps p old [] last = last ≡ old
  Steps p old (entry ∷ entries) last =
      (may_come (numbered w.kind.count) p entry.event ≡ true)
      × (register : Register)
      × RegisterStands (numbered w.kind.count) p register
      × (new : Moment w)
      × (new.marks ≡ entry.marks)
      × IsStep w stored provider counts register entry.event old new
      × Steps (after_entry p entry.event entry.marks) (record new { marks = [] }) entries last
