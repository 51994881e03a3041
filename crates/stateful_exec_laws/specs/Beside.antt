-- What stays beside the tables: live runs go on turning, and the parents of queued proposals are
-- known or lost.
use Rattle.std.specs.Prelude.{◌≡◌, ◌++◌, ℕ, List, Option}
use Rattle.stateful_base.specs.Names.{Named}
use Rattle.stateful_history.specs.Past.{Past, after}
use Rattle.stateful_history.specs.declared.mark.Mark.{Mark}
use Rattle.stateful_exec_model.specs.Moments.{Moment}
use Rattle.stateful_exec_model.specs.Workings.{Workings}
use Rattle.stateful_exec_tables.specs.declared.state.Tables.{Tables}
use Rattle.stateful_exec_laws.specs.Outstanding.{RunsGoOn}
use Rattle.stateful_exec_laws.specs.Reaching.{QueueReaches}

module _ {B C I P R D H G U : Type 0} (w : Workings B C I P R D H G U)
    (stored : ℕ → Option (Named B)) (base : w.States) where
  -- it is so at a place
  pub record StaysBeside (p : Past B C I) (v : Tables B C I R U) : Type 0 where
    pub runs : RunsGoOn w stored base p v.runs
    pub queue : QueueReaches w stored base p v.queued

  -- from one moment to a later one some marks are made, and it is so with them
  pub record BesideBehind (p : Past B C I) (m now : Moment w) : Type 0 where
    pub more : List (Mark B)
    pub marks_are : now.marks ≡ m.marks ++ more
    pub stays : StaysBeside (after p more) now.state
