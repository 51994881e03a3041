-- Which marks the loop makes while the machine is up.
use Rattle.std.specs.Prelude.{◌≡◌, ◌++◌, List, All}
use Rattle.stateful_history.specs.declared.mark.Mark.{Mark}
use Rattle.stateful_history.specs.declared.mark.Mark.TheVariants.{Opened, Converged, Recorded}
use Rattle.stateful_history.specs.declared.mark.Mark.TheVariants.{Dispatched, Pruned, Completed}
use Rattle.stateful_history.specs.declared.mark.Mark.TheVariants.{Dropped, Stopped}
use Rattle.stateful_exec_model.specs.Workings.{Workings}
use Rattle.stateful_loop_model.specs.Moments.{Moment}

-- not the marks of openings, syncs, prunes and stops
abbrev pub IsOfRule : {B : Type 0} → Mark B → Type 0
IsOfRule (Opened anchor) = ⊥
IsOfRule (Converged anchor) = ⊥
IsOfRule (Recorded anchor) = ⊥
IsOfRule (Dispatched generation height) = ⊥
IsOfRule (Pruned marshal target) = ⊥
IsOfRule (Completed height) = ⊥
IsOfRule (Dropped t) = ⊥
IsOfRule Stopped = ⊥
IsOfRule mark = Unit {0}

-- from one moment to a later one such marks are made
pub record MarksBehind {B C I P R D H G U : Type 0} (w : Workings B C I P R D H G U)
    (m now : Moment w) : Type 0 where
  pub more : List (Mark B)
  pub marks_are : now.marks ≡ m.marks ++ more
  pub each : All IsOfRule more
