-- What stands after an event that is taken in while the machine is up.
use Rattle.std.specs.Prelude.{◌≡◌, ℕ, Option, List, ◌++◌, All}
use Rattle.stateful_base.specs.Names.{Named}
use Rattle.stateful_history.specs.Joined.{TrueIsEarned}
use Rattle.stateful_history.specs.Past.{Past, EachMark, after}
use Rattle.stateful_history.specs.declared.mark.Mark.{Mark}
use Rattle.stateful_exec_model.specs.Workings.{Workings}
use Rattle.stateful_exec_laws.specs.Setting.{setting}
use Rattle.stateful_loop_laws.specs.Durability.{IsDurablySaid}
use Rattle.stateful_loop_laws.specs.RuleMarks.{IsOfRule}
use Rattle.stateful_loop_laws.specs.Stands.{IsUpAt}
use Rattle.stateful_loop_model.specs.Moments.{Moment}

module _ {B C I P R D H G U : Type 0} (w : Workings B C I P R D H G U)
    (stored : ℕ → Option (Named B)) (base : w.States) (q : Past B C I)
    (m now : Moment w) where
  -- From the moment before an event to the one at which it is taken in some marks of rules are made
  -- after that event; true verdicts among them are earned, and each keeps the rules of barriers
  -- and of acknowledgements. All stands with them as it does for a machine that is up, which it
  -- needn't be any more: a stop alone takes the machine down, and leaves the rest.
  pub record TakenBehind : Type 0 where
    pub more : List (Mark B)
    pub marks_are : now.marks ≡ m.marks ++ more
    pub of_rules : All IsOfRule more
    pub stands : IsUpAt w stored base (after q more) now
    pub earned : EachMark (TrueIsEarned (setting w stored) base) q more
    pub said : EachMark (IsDurablySaid w) q more
