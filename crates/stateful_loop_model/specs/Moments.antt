-- Execution, what the loop keeps, and the databases at a moment, with the marks made so far.
use Rattle.std.specs.Prelude.{Option, List}
use Rattle.stateful_history.specs.declared.mark.Mark.{Mark}
use Rattle.stateful_exec_model.specs.Workings.{Workings}
use Rattle.stateful_exec_model.specs.Moments as exec
use Rattle.stateful_exec_model.specs.State.{Owner}
use Rattle.stateful_exec_model.specs.declared.building.Building.{Building}
use Rattle.stateful_exec_model.specs.declared.front.Front.{Front}
use Rattle.stateful_exec_tables.specs.declared.state.Tables.{Tables}
use Rattle.stateful_loop_model.specs.declared.tables.Processing.{Processing}

-- the tables of execution, its live build, and how far a finalization has come
pub record Executing (B C I R D H U : Type 0) : Type 0 where
  pub state : Tables B C I R U
  pub build : Option (Building B C D)
  pub front : Option (Front B R U H)

-- what is kept beside an application
abbrev pub executing : {A B C I R D H U : Type 0}
    → Owner A (Tables B C I R U) (Option (Building B C D)) (Option (Front B R U H))
    → Executing B C I R D H U
executing owner = record { state = owner.state; build = owner.build; front = owner.front }

pub record Moment {B C I P R D H G U : Type 0} (w : Workings B C I P R D H G U) : Type 0 where
  pub execution : Executing B C I R D H U
  pub loop : Processing B C I G
  pub members : w.kind.Members
  -- the batch ids that are drawn next
  pub next : w.Ids
  pub marks : List (Mark B)

module _ {B C I P R D H G U : Type 0} (w : Workings B C I P R D H G U) where
  abbrev pub moment : Executing B C I R D H U
      → Processing B C I G
      → w.kind.Members
      → w.Ids
      → List (Mark B)
      → Moment w
  moment execution loop members next marks =
      record { execution = execution; loop = loop; members = members; next = next; marks = marks }

  -- the moment of the tables of execution
  abbrev pub inner : Moment w → exec.Moment w
  inner m =
      record { state = m.execution.state; members = m.members; next = m.next; marks = m.marks }

  -- another moment of the tables of execution; all else is as it is
  abbrev pub with_inner : Moment w → exec.Moment w → Moment w
  with_inner m now =
      record m {
        execution =
            record m.execution { state = now.state };
        members =
            now.members;
        next = now.next;
        marks = now.marks;
      }

  abbrev pub with_loop : Moment w → Processing B C I G → Moment w
  with_loop m loop = record m { loop = loop }
