-- A request's path, taken a block at a time.
use Rattle.std.specs.Prelude.{◌≡◌, [], ℕ, Option, Some, None, List}
use Rattle.stateful_base.specs.Names.{Named}
use Rattle.stateful_exec_model.specs.Workings.{Workings}
use Rattle.stateful_exec_model.specs.Moments.{Moment, Becomes}
use Rattle.stateful_exec_tables.specs.Tables.{requested, taken, moved, Knows, HasRun, RunsNone}
use Rattle.stateful_exec_model.specs.Rules.{Concludes}
use Rattle.stateful_exec_model.specs.Rules.{Launches}
use Rattle.stateful_exec_model.specs.Fetching.{serving}
use Rattle.stateful_exec_model.specs.Causes.{FaultsStart}
use Rattle.stateful_exec_tables.specs.declared.error.ExecError.{ExecError}
use Rattle.stateful_exec_tables.specs.declared.error.ExecError.TheVariants.{OutOfMemory}
use Rattle.stateful_exec_walk.specs.declared.request.Request.{Request}
use Rattle.stateful_exec_walk.specs.declared.request.Verdict.TheVariants.{Invalid}
use Rattle.stateful_exec_tables.specs.declared.tables.Phase.TheVariants.{Executing, Parked}
use Rattle.stateful_exec_model.specs.declared.joined.Joined.{Joined}
use Rattle.stateful_exec_model.specs.declared.joined.Joined.TheVariants.{Known, Run, Missed}
use Rattle.stateful_exec_tables.specs.Stepping.{IsAbout, HasNext}

module _ {B C I P R D H G U : Type 0} (w : Workings B C I P R D H G U) where
  -- What becomes of a request with its next block: the block is known, and left behind; or the
  -- request joins its live run; or one is started on its parent; or its parent isn't known, and the
  -- request ends. Without a next block nothing changes.
  pub data Processes (m : Moment w) (t : ℕ) (now : Moment w) : Option Joined → Type 0 where
    passes : {request : Request B C I} {left : List (Named B)} {b parent : Named B}
        → IsAbout m.state t request left b parent
        → Knows m.state b.digest
        → Becomes w m
        (moved (taken m.state t) t (requested request)
        (Parked (record { blocks = left; parent = b })))
        [] now
        → Processes m t now (Some Known)
    joins_run : {request : Request B C I} {left : List (Named B)} {b parent : Named B} {j : ℕ}
        → IsAbout m.state t request left b parent
        → (Knows m.state b.digest → ⊥) → HasRun m.state b.digest j
        → Becomes w m
        (moved (taken m.state t) t (requested request)
        (Executing j (record { blocks = left; parent = b })))
        [] now
        → Processes m t now (Some (Run j))
    starts_run : {request : Request B C I} {left : List (Named B)} {b parent : Named B} {j : ℕ}
        → IsAbout m.state t request left b parent
        → (Knows m.state b.digest → ⊥)
        → RunsNone m.state b.digest
        → Knows m.state parent.digest
        → j ≡ m.state.next_job
        → Launches w (serving w m t) t (requested request) left b parent now
        → Processes m t now (Some (Run j))
    ends : {request : Request B C I} {left : List (Named B)} {b parent : Named B}
        → IsAbout m.state t request left b parent
        → (Knows m.state b.digest → ⊥)
        → RunsNone m.state b.digest
        → (Knows m.state parent.digest → ⊥)
        → Concludes w (serving w m t) t (requested request) Invalid now
        → Processes m t now (Some Missed)
    no_next : ((b : Named B) → HasNext m.state t b → ⊥) → now ≡ m → Processes m t now None

  -- memory ran out, or no run was started of the next block of a request
  pub data FaultsProcess (rose : Type 0) (m : Moment w) (t : ℕ) (e : ExecError) : Type 0 where
    no_room : e ≡ OutOfMemory → FaultsProcess rose m t e
    not_started : {request : Request B C I} {left : List (Named B)} {b parent : Named B}
        → IsAbout m.state t request left b parent
        → (Knows m.state b.digest → ⊥) → RunsNone m.state b.digest → Knows m.state parent.digest
        → FaultsStart w rose m.state.next_job m.members m.next e → FaultsProcess rose m t e
