-- The rules of requests, each from a moment to the next one.
use Rattle.std.specs.Prelude.{◌≡◌, ◌+◌, ◌++◌, ◌∷◌, [], ℕ, Option, Some, List, All}
use Rattle.stateful_base.specs.Names.{Named}
use Rattle.stateful_base.specs.declared.digest.Digest.{Digest}
use Rattle.stateful_history.specs.declared.mark.Mark.TheVariants as mark
use Rattle.stateful_history.specs.declared.mark.JobKind.TheVariants as job
use Rattle.stateful_exec_walk.specs.Path.{Path}
use Rattle.stateful_exec_tables.specs.declared.state.Tables.{Tables}
use Rattle.stateful_exec_walk.specs.Walk.{IsPrepared}
use Rattle.stateful_exec_model.specs.Workings.{Workings}
use Rattle.stateful_exec_model.specs.Moments.{Moment, Becomes}
use Rattle.stateful_exec_tables.specs.Tables.{IsLeft}
use Rattle.stateful_exec_model.specs.Starting.{StartsRun}
use Rattle.stateful_exec_walk.specs.declared.request.Verdict.{Verdict}
use Rattle.stateful_exec_walk.specs.declared.request.Verdict.TheVariants.{Valid, Invalid}
use Rattle.stateful_exec_tables.specs.declared.tables.Phase.TheVariants.{Fetching, Waiting}
use Rattle.stateful_exec_tables.specs.declared.tables.Phase.TheVariants.{Executing}
use Rattle.stateful_exec_tables.specs.declared.tables.Requested.{Requested}
use Rattle.stateful_exec_walk.specs.declared.walk.Acquired.{Acquired}
use Rattle.stateful_exec_walk.specs.declared.walk.Acquired.TheVariants as acquired
use Rattle.stateful_exec_tables.specs.Tables.{requested, told, moved, ended, Knows, HasRun, RunsNone}
use Rattle.stateful_exec_tables.specs.Meeting.{GoesOn, IsPassed, Reaches}

module _ {B C I P R D H G U : Type 0} (w : Workings B C I P R D H G U) where
  -- a request ends
  abbrev pub Concludes : Moment w → ℕ → Requested B C I → Verdict → Moment w → Type 0
  Concludes m t r verdict now =
      Becomes w m (ended m.state t r.request verdict) (told t r.request verdict) now

  -- a run of the next block is started for a request
  pub record Launches (m : Moment w) (t : ℕ) (r : Requested B C I) (left : List (Named B))
      (b parent : Named B) (now : Moment w) : Type 0 where
    pub running : Tables B C I R U
    pub starts : StartsRun w b parent m.members m.next now.next m.state running
    pub state : now.state
        ≡ moved running t r (Executing m.state.next_job (record { blocks = left; parent = b }))
    pub members : now.members ≡ m.members
    pub marks : now.marks ≡ m.marks ++ mark.Started m.state.next_job job.Candidate b.digest ∷ []

  -- What becomes of a request with blocks to run: none needs a run, and the request ends well; or
  -- the next one doesn't go on over a finalization; or it has a live run, which the request joins;
  -- or one is started on its parent; or its parent isn't known.
  pub data Advances (m : Moment w) (t : ℕ) (r : Requested B C I) (path : Path B)
      (now : Moment w) : Type 0 where
    arrives : All (IsPassed w.header m.state) path.blocks
        → Concludes m t r Valid now
        → Advances m t r path now
    leaves : {left : List (Named B)} {b parent : Named B}
        → Reaches w.header m.state path left b parent
        → (GoesOn w.header m.state.pause b → ⊥)
        → Concludes m t r Invalid now
        → Advances m t r path now
    joins : {left : List (Named B)} {b parent : Named B} (j : ℕ)
        → Reaches w.header m.state path left b parent
        → GoesOn w.header m.state.pause b → (Knows m.state b.digest → ⊥) → HasRun m.state b.digest j
        → Becomes w m (moved m.state t r (Executing j (record { blocks = left; parent = b })))
        [] now
        → Advances m t r path now
    starts : {left : List (Named B)} {b parent : Named B}
        → Reaches w.header m.state path left b parent
        → GoesOn w.header m.state.pause b
        → (Knows m.state b.digest → ⊥)
        → RunsNone m.state b.digest
        → Knows m.state parent.digest
        → Launches m t r left b parent now → Advances m t r path now
    misses : {left : List (Named B)} {b parent : Named B}
        → Reaches w.header m.state path left b parent
        → GoesOn w.header m.state.pause b
        → (Knows m.state b.digest → ⊥)
        → RunsNone m.state b.digest
        → (Knows m.state parent.digest → ⊥)
        → Concludes m t r Invalid now → Advances m t r path now

  module _ (stored : ℕ → Option (Named B)) where
    -- what a request needs, with what was acquired for it
    abbrev pub Needs : Moment w → Requested B C I → Acquired B → Type 0
    Needs m r found =
        IsPrepared w.header m.state.anchor m.state.cache stored r.request r.acquired found

    -- What becomes of a request that acquires what it needs: it ends; or a block is fetched for it,
    -- under the next number; or it waits; or its blocks are run.
    pub data Acquires (m : Moment w) (t : ℕ) (r : Requested B C I) (now : Moment w) : Type 0 where
      valid : Needs m r acquired.Valid → Concludes m t r Valid now → Acquires m t r now
      invalid : Needs m r acquired.Invalid → Concludes m t r Invalid now → Acquires m t r now
      asks : (digest : Digest) → Needs m r (acquired.Ask digest) → IsLeft m.state.next_fetch
          → Becomes w m
          (record (moved m.state t r (Fetching m.state.next_fetch))
          { next_fetch = m.state.next_fetch + 1 })
          (mark.Asked m.state.next_fetch (Some t) digest ∷ []) now
          → Acquires m t r now
      waits : Needs m r acquired.Waits
          → Becomes w m (moved m.state t r Waiting) [] now
          → Acquires m t r now
      runs : {path : Path B}
          → Needs m r (acquired.Ready path)
          → Advances m t (requested r.request) path now
          → Acquires m t r now
