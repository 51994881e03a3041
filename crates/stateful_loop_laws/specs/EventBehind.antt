-- What stands after a whole event: it is taken in by a machine that is up, and rules go until
-- nothing can go on; or it is a restart.
use Rattle.std.specs.Prelude.{◌≡◌, ℕ, true, Option, List, ◌++◌, All}
use Rattle.stateful_base.specs.Names.{Named}
use Rattle.stateful_history.specs.Holding.{Holds}
use Rattle.stateful_history.specs.Joined.{TrueIsEarned}
use Rattle.stateful_history.specs.Past.{Past, EachMark, after}
use Rattle.stateful_history.specs.declared.mark.Mark.{Mark}
use Rattle.stateful_exec_model.specs.Workings.{Workings}
use Rattle.stateful_exec_laws.specs.Setting.{setting}
use Rattle.stateful_loop_laws.specs.Down.{IsCounted, IsDownAt}
use Rattle.stateful_loop_laws.specs.Durability.{IsDurablySaid}
use Rattle.stateful_loop_laws.specs.RuleMarks.{IsOfRule}
use Rattle.stateful_loop_laws.specs.Stands.{IsUpAt}
use Rattle.stateful_loop_model.specs.Moments.{Moment}

module _ {B C I P R D H G U : Type 0} (w : Workings B C I P R D H G U)
    (stored : ℕ → Option (Named B)) (base : w.States) (q : Past B C I)
    (m now : Moment w) where
  -- From the moment before an event to the one behind all that goes on with it some marks of rules
  -- are made after that event. True verdicts among them are earned, and those of barriers and
  -- acknowledgements keep their rules. The databases hold what was applied, and the numbers so far
  -- are below the next ones, be the machine up or not, as after a stop or a broken barrier. Where
  -- it is up, it stands for the past with these marks.
  pub record EventBehind : Type 0 where
    pub more : List (Mark B)
    pub marks_are : now.marks ≡ m.marks ++ more
    pub of_rules : All IsOfRule more
    pub earned : EachMark (TrueIsEarned (setting w stored) base) q more
    pub said : EachMark (IsDurablySaid w) q more
    pub up : now.loop.up ≡ true → IsUpAt w stored base (after q more) now
    pub holds : Holds (setting w stored) w.kind base (after q more) now.members
    pub counted : IsCounted w (after q more) now

  -- The event was a stop, or a barrier broke: after the marks of the event and those of the stop
  -- the machine is down. True verdicts among them are earned, barriers and acknowledgements keep
  -- their rules, and the databases hold what was applied.
  pub record StoppedBehind : Type 0 where
    pub more : List (Mark B)
    pub marks_are : now.marks ≡ m.marks ++ more
    pub earned : EachMark (TrueIsEarned (setting w stored) base) q more
    pub said : EachMark (IsDurablySaid w) q more
    pub holds : Holds (setting w stored) w.kind base (after q more) now.members
    pub down : IsDownAt w (after q more) now

  -- The event was a restart: after the marks by which all live work ends and that of the opening
  -- the machine is up, and stands for the past with these marks.
  pub record RestartedBehind : Type 0 where
    pub more : List (Mark B)
    pub marks_are : now.marks ≡ m.marks ++ more
    pub earned : EachMark (TrueIsEarned (setting w stored) base) q more
    pub said : EachMark (IsDurablySaid w) q more
    pub up : now.loop.up ≡ true
    pub stands : IsUpAt w stored base (after q more) now
    pub holds : Holds (setting w stored) w.kind base (after q more) now.members
