-- That all that is live is in hand, and goes on, after marks that were made.
use Rattle.std.specs.Prelude.{◌≡◌, ℕ, Option, List, ◌++◌}
use Rattle.stateful_base.specs.Names.{Named}
use Rattle.stateful_history.specs.Past.{Past, after}
use Rattle.stateful_history.specs.declared.mark.Mark.{Mark}
use Rattle.stateful_exec_model.specs.Workings.{Workings}
use Rattle.stateful_loop_laws.specs.InHand.{AllInHand, GoesOnAt}
use Rattle.stateful_loop_model.specs.Moments.{Moment}

module _ {B C I P R D H G U : Type 0} (w : Workings B C I P R D H G U)
    (stored : ℕ → Option (Named B))
    (base : w.States) (p : Past B C I) (m now : Moment w) where
  -- From one moment to a later one some marks are made. All that is live is in hand with them, and
  -- goes on.
  pub record HandsBehind : Type 0 where
    pub more : List (Mark B)
    pub marks_are : now.marks ≡ m.marks ++ more
    pub hands : AllInHand w (after p more) now
    pub goes : GoesOnAt w stored base (after p more) now
