-- Execution and the databases at a moment, with the marks made so far.
use Rattle.std.specs.Prelude.{◌≡◌, ◌++◌, List}
use Rattle.stateful_history.specs.declared.mark.Mark.{Mark}
use Rattle.stateful_exec_model.specs.Workings.{Workings}
use Rattle.stateful_exec_tables.specs.declared.state.Tables.{Tables}

pub record Moment {B C I P R D H G U : Type 0} (w : Workings B C I P R D H G U) : Type 0 where
  pub state : Tables B C I R U
  pub members : w.kind.Members
  -- the batch ids that are drawn next
  pub next : w.Ids
  pub marks : List (Mark B)

module _ {B C I P R D H G U : Type 0} (w : Workings B C I P R D H G U) where
  abbrev pub moment : Tables B C I R U → w.kind.Members → w.Ids → List (Mark B) → Moment w
  moment state members next marks =
      record { state = state; members = members; next = next; marks = marks }

  -- the tables change to these, and these marks are made
  abbrev pub Becomes : Moment w → Tables B C I R U → List (Mark B) → Moment w → Type 0
  Becomes m state marks now = now ≡ moment state m.members m.next (m.marks ++ marks)
