-- What stands after an opening.
use Rattle.std.specs.Prelude.{◌≡◌, ℕ, true, Option, ◌++◌, ◌∷◌, []}
use Rattle.stateful_base.specs.Names.{Named}
use Rattle.stateful_base.specs.declared.anchor.Anchor.{Anchor}
use Rattle.stateful_history.specs.Joined.{TrueIsEarned}
use Rattle.stateful_history.specs.Past.{Past, Made, EachMark}
use Rattle.stateful_history.specs.declared.mark.Mark.TheVariants.{Opened}
use Rattle.stateful_exec_model.specs.Workings.{Workings}
use Rattle.stateful_exec_laws.specs.Setting.{setting}
use Rattle.stateful_loop_laws.specs.Durability.{IsDurablySaid}
use Rattle.stateful_loop_laws.specs.Stands.{IsUpAt}
use Rattle.stateful_loop_model.specs.Moments.{Moment}

module _ {B C I P R D H G U : Type 0} (w : Workings B C I P R D H G U)
    (stored : ℕ → Option (Named B)) (base : w.States) (q : Past B C I)
    (m now : Moment w) (anchor : Anchor) where
  -- The machine is opened at this anchor, which is the one mark that is made: it is up, and stands
  -- for the past with it.
  pub record OpenedBehind : Type 0 where
    pub marks_are : now.marks ≡ m.marks ++ Opened anchor ∷ []
    pub up : now.loop.up ≡ true
    pub stands : IsUpAt w stored base (Made (Opened anchor) ∷ q) now
    pub earned : EachMark (TrueIsEarned (setting w stored) base) q (Opened anchor ∷ [])
    pub said : EachMark (IsDurablySaid w) q (Opened anchor ∷ [])
