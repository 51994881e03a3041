-- The rules on marks of barriers and of acknowledgements, and what the loop keeps after marks.
use Rattle.std.specs.Prelude.{◌≡◌, ℕ, Option, List, ◌++◌}
use Rattle.stateful_base.specs.Names.{Named}
use Rattle.stateful_history.specs.Barriers.{BarrierIsOver, GoodIsInOrder}
use Rattle.stateful_history.specs.Durable.{GoodIsFlushed, AcknowledgedIsDurable}
use Rattle.stateful_history.specs.Finalizations.{AcknowledgedIsApplied}
use Rattle.stateful_history.specs.Past.{Past, EachMark, after}
use Rattle.stateful_history.specs.declared.mark.Mark.{Mark}
use Rattle.stateful_exec_model.specs.Workings.{Workings}
use Rattle.stateful_loop_laws.specs.Stands.{LoopStands}
use Rattle.stateful_loop_model.specs.Moments.{Moment}

module _ {B C I P R D H G U : Type 0} (w : Workings B C I P R D H G U) where
  -- the rules on marks of barriers and of acknowledgements
  abbrev pub IsDurablySaid : Past B C I → Mark B → Type 0
  IsDurablySaid p mark =
      BarrierIsOver w.header p mark
      × GoodIsFlushed w.header w.kind.count p mark
      × GoodIsInOrder p mark
      × AcknowledgedIsDurable p mark
      × AcknowledgedIsApplied w.header p mark

module _ {B C I P R D H G U : Type 0} (w : Workings B C I P R D H G U)
    (stored : ℕ → Option (Named B)) (base : w.States) (p : Past B C I)
    (m now : Moment w) where
  -- From one moment to a later one some marks are made, which keep these rules; and what the loop
  -- keeps stands for the past with them.
  pub record LoopBehind : Type 0 where
    pub more : List (Mark B)
    pub marks_are : now.marks ≡ m.marks ++ more
    pub loop : LoopStands w stored base (after p more) now
    pub said : EachMark (IsDurablySaid w) p more
