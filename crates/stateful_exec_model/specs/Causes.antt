-- Why requests aren't served.
use Rattle.std.specs.Prelude.{◌≡◌, ◌⊎◌, ℕ, Option, None, Result, Ok, Err, List, MatchOption}
use Rattle.stateful_base.specs.Names.{Named}
use Rattle.stateful_base.specs.declared.digest.Digest.{Digest}
use Rattle.stateful_base.specs.declared.outcome.Moved.{Moved}
use Rattle.stateful_base.specs.declared.outcome.Moved.TheVariants.{Pending, Done}
use Rattle.stateful_db.specs.declared.application.AppFault.{AppFault}
use Rattle.stateful_history.specs.declared.mark.How.{How}
use Rattle.stateful_table.specs.Table.{at}
use Rattle.stateful_exec_tables.specs.Errors.{error_of_app}
use Rattle.stateful_exec_walk.specs.Path.{Path}
use Rattle.stateful_exec_tables.specs.Phase.{released_on}
use Rattle.stateful_exec_model.specs.Workings.{Workings}
use Rattle.stateful_exec_model.specs.Moments.{Moment}
use Rattle.stateful_exec_tables.specs.Tables.{IsLeft}
use Rattle.stateful_exec_model.specs.Ending.{StopsAt, EndsRun, Follows, TurnsRun}
use Rattle.stateful_exec_tables.specs.Keeping.{FaultsTake}
use Rattle.stateful_exec_tables.specs.Tables.{released}
use Rattle.stateful_exec_tables.specs.Tables.{Knows, RunsNone}
use Rattle.stateful_exec_tables.specs.Meeting.{GoesOn}
use Rattle.stateful_exec_tables.specs.Meeting.{Reaches}
use Rattle.stateful_exec_model.specs.Rules.{Needs}
use Rattle.stateful_exec_tables.specs.declared.error.ExecError.{ExecError}
use Rattle.stateful_exec_tables.specs.declared.error.ExecError.TheVariants.{Lost, Application, Exhausted}
use Rattle.stateful_exec_tables.specs.declared.error.ExecError.TheVariants.{OutOfMemory}
use Rattle.stateful_exec_tables.specs.declared.state.Tables.{Tables}
use Rattle.stateful_exec_tables.specs.declared.tables.Released.{Released}
use Rattle.stateful_exec_tables.specs.declared.tables.Requested.{Requested}
use Rattle.stateful_exec_walk.specs.declared.walk.Acquired.TheVariants as acquired

module _ {B C I P R D H G U : Type 0} (w : Workings B C I P R D H G U) where
  -- no batches were made: a database isn't here, or has no batch id left
  abbrev pub FaultsBatches : w.kind.Members → w.Ids → ExecError → Type 0
  FaultsBatches m next OutOfMemory = Unit {0}
  FaultsBatches m next Exhausted = w.kind.Spent next
  FaultsBatches m next Lost = w.kind.point m ≡ None
  FaultsBatches m next e = ⊥

  -- the cache didn't take the block of the run of a job
  abbrev pub FaultsEnd : Tables B C I R U → ℕ → ExecError → Type 0
  FaultsEnd v j e = MatchOption (at v.runs j) ⊥ (λ run. FaultsTake w.header run.block v.cache e)

module _ {B C I P R D H G U : Type 0} (w : Workings B C I P R D H G U) (rose : Type 0) where
  -- no run was started: no number was left for its job; or one was, and no batches were made; or
  -- the application, which had them, failed
  abbrev pub FaultsStart : ℕ → w.kind.Members → w.Ids → ExecError → Type 0
  FaultsStart job m next OutOfMemory = Unit {0}
  FaultsStart job m next Exhausted = (IsLeft job → ⊥) ⊎ w.kind.Spent next
  FaultsStart job m next Lost = (w.kind.point m ≡ None) × IsLeft job
  FaultsStart job m next Application = rose × IsLeft job × (w.kind.Spent next → ⊥)
  FaultsStart job m next e = ⊥

  -- memory ran out, or no run was started of the next block of a request
  pub data FaultsAdvance (m : Moment w) (path : Path B) (e : ExecError) : Type 0 where
    memory : e ≡ OutOfMemory → FaultsAdvance m path e
    starting : {left : List (Named B)} {b parent : Named B}
        → Reaches w.header m.state path left b parent
        → GoesOn w.header m.state.pause b
        → (Knows m.state b.digest → ⊥)
        → RunsNone m.state b.digest
        → Knows m.state parent.digest
        → FaultsStart m.state.next_job m.members m.next e → FaultsAdvance m path e

  -- memory ran out; or no number was left for a fetch; or the blocks of a request weren't run
  pub data FaultsAcquire (stored : ℕ → Option (Named B)) (m : Moment w) (r : Requested B C I)
      (e : ExecError) : Type 0 where
    memory : e ≡ OutOfMemory → FaultsAcquire stored m r e
    no_fetch : (digest : Digest)
        → e ≡ Exhausted
        → Needs w stored m r (acquired.Ask digest)
        → (IsLeft m.state.next_fetch → ⊥)
        → FaultsAcquire stored m r e
    running : {path : Path B}
        → Needs w stored m r (acquired.Ready path)
        → FaultsAdvance m path e
        → FaultsAcquire stored m r e

  -- some requests followed in turn, and the next one wasn't served
  abbrev pub FaultsFollow : Named B → How → List (Released B C I) → Moment w → ExecError → Type 0
  FaultsFollow b how all m e =
      StopsAt (Follows w b how) (λ r mid error. FaultsAdvance mid r.path error) all m e

  -- memory ran out; or the run of a job wasn't ended; or it was, and one of the requests that
  -- waited for it wasn't served
  pub data FaultsSettle (m : Moment w) (j : ℕ) (ended : Option U) (e : ExecError) : Type 0 where
    memory : e ≡ OutOfMemory → FaultsSettle m j ended e
    ending : FaultsEnd w m.state j e → FaultsSettle m j ended e
    following : {b : Named B} {how : How} {done : Moment w} → EndsRun w m j b ended how done
        → FaultsFollow b how (released_on j done.state.requests)
        (record done { state = released j done.state }) e
        → FaultsSettle m j ended e

  -- a turn's answer is an error, or what it leads to failed
  abbrev pub FaultsAnswer : Moment w → ℕ → Result (Moved (Option U)) AppFault → ExecError → Type 0
  FaultsAnswer m j (Ok Pending) e = ⊥
  FaultsAnswer m j (Ok (Done ended)) e = FaultsSettle m j ended e
  FaultsAnswer m j (Err fault) e = e ≡ error_of_app fault

  -- memory ran out before the turn of a run ended; or the turn failed, or what its answer leads to
  pub data FaultsStep (count : R → ℕ) (m : Moment w) (j : ℕ) (e : ExecError) : Type 0 where
    memory : e ≡ OutOfMemory → FaultsStep count m j e
    turned : {running : Tables B C I R U} {answer : Result (Moved (Option U)) AppFault}
        → TurnsRun w count m.members j m.state running answer
        → FaultsAnswer (record m { state = running }) j answer e → FaultsStep count m j e
