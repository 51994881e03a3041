-- Turns of candidate runs, how their ends are told, and what becomes of the requests that waited
-- for them.
use Rattle.std.specs.Prelude.{◌≡◌, ◌≢◌, ◌+◌, ◌++◌, ◌∷◌, [], ℕ, Option, Some, None, Result, Ok}
use Rattle.std.specs.Prelude.{Err, List, IfOk, IsErrOf}
use Rattle.stateful_base.specs.Causes.{Rose}
use Rattle.stateful_base.specs.Names.{Named}
use Rattle.stateful_base.specs.declared.anchor.Anchor.{Anchor}
use Rattle.stateful_base.specs.declared.outcome.Moved.{Moved}
use Rattle.stateful_base.specs.declared.outcome.Moved.TheVariants.{Pending, Done}
use Rattle.stateful_db.specs.Chain.{IsPoint}
use Rattle.stateful_db.specs.Meaning.{outcome, Ends}
use Rattle.stateful_db.specs.Works.{RunOf, block_of, run_chain, Costs}
use Rattle.stateful_db.specs.declared.application.AppFault.{AppFault}
use Rattle.stateful_db.specs.declared.application.AppFault.TheVariants.{Failed}
use Rattle.stateful_history.specs.declared.mark.How.{How}
use Rattle.stateful_history.specs.declared.mark.How.TheVariants.{Rejected, Mismatched}
use Rattle.stateful_history.specs.declared.mark.Mark.TheVariants as mark
use Rattle.stateful_exec_cache.specs.Cache.{IsIn}
use Rattle.stateful_exec_cache.specs.declared.cache.Cached.{Cached}
use Rattle.stateful_table.specs.Table.{at, put, without}
use Rattle.stateful_exec_tables.specs.Phase.{released_on}
use Rattle.stateful_exec_model.specs.Workings.{Workings, Point}
use Rattle.stateful_exec_model.specs.Moments.{Moment, Becomes}
use Rattle.stateful_exec_tables.specs.Tables.{moved, requested}
use Rattle.stateful_exec_model.specs.Rules.{Concludes, Advances}
use Rattle.stateful_exec_pause.specs.declared.pause.Pause.{Pause}
use Rattle.stateful_exec_pause.specs.declared.pause.Pause.TheVariants.{Pruning}
use Rattle.stateful_exec_walk.specs.declared.request.Verdict.TheVariants.{Invalid}
use Rattle.stateful_exec_tables.specs.declared.state.Tables.{Tables}
use Rattle.stateful_exec_tables.specs.declared.tables.LiveRun.{LiveRun}
use Rattle.stateful_exec_tables.specs.declared.tables.Phase.TheVariants.{Parked}
use Rattle.stateful_exec_tables.specs.declared.tables.Released.{Released}
use Rattle.stateful_exec_tables.specs.Keeping.{Takes}
use Rattle.stateful_exec_pause.specs.Fates.{Crosses, IsGivenUp, AwaitsBoundary}
use Rattle.stateful_exec_tables.specs.Tables.{released}

-- one relation after another, for each of these
pub data InTurn {X M : Type 0} (R : X → M → M → Type 0) : List X → M → M → Type 0 where
  none : {m : M} → InTurn R [] m m
  next : {x : X} {xs : List X} {m n last : M}
      → R x m n
      → InTurn R xs n last
      → InTurn R (x ∷ xs) m last

-- some of these were served in turn, and the next one wasn't
pub record StopsAt {X M E : Type 0} (R : X → M → M → Type 0) (Faults : X → M → E → Type 0)
    (all : List X) (m : M) (e : E) : Type 0 where
  pub served : List X
  pub next : X
  pub rest : List X
  pub mid : M
  pub parts : all ≡ served ++ next ∷ rest
  pub turns : InTurn R served m mid
  pub fault : Faults next mid e

module _ {B C I P R D H G U : Type 0} (w : Workings B C I P R D H G U) where
  -- A turn of a run: where the databases are at a point of its chain, it goes on, or ends with what
  -- is to come of its block, in as many turns as it costs, where that is told.
  pub record Turns (m : w.kind.Members) (run turned : R) (moved : Moved (Option U)) : Type 0 where
    pub ends : (r : RunOf B C w.Ids w.States) (n : ℕ) (q : Point w)
        → w.works.runs run r n
        → w.kind.point m ≡ Some q
        → IsPoint q (r.at ∷ r.below)
        → Ends moved (outcome w.works.meaning r.finality r.at.1 (block_of r))
        (λ batch s. w.shows batch (run_chain r s)) (w.works.runs turned r (n + 1))
    pub costs : (r : RunOf B C w.Ids w.States) (n : ℕ) (q : Point w)
        → w.works.runs run r n
        → w.kind.point m ≡ Some q
        → IsPoint q (r.at ∷ r.below)
        → Costs (w.works.run_cost r.finality r.at.1 (block_of r)) moved n

  -- the batch stands on states that the block commits to, or on others
  abbrev pub Agrees : Named B → U → Type 0
  Agrees b batch =
      (p : Point w) (c : List (Point w))
      → w.shows batch (p ∷ c)
      → w.kind.target_of p.1 ≡ w.works.meaning.targets b.block

  abbrev pub Differs : Named B → U → Type 0
  Differs b batch =
      (p : Point w) (c : List (Point w))
      → w.shows batch (p ∷ c)
      → w.kind.target_of p.1 ≢ w.works.meaning.targets b.block

  -- How a candidate run that ended so is told, and what it leaves of the cache: without a batch it
  -- is rejected; a batch with other targets is mismatched; another one is taken by the cache, or
  -- missed.
  pub data IsTold (anchor : Anchor) (b : Named B) (old new : List (Cached U)) : Option U
      → How
      → Type 0 where
    rejected : new ≡ old → IsTold anchor b old new None Rejected
    mismatched : {batch : U}
        → Differs b batch
        → new ≡ old
        → IsTold anchor b old new (Some batch) Mismatched
    agreed : {batch : U} {how : How}
        → Agrees b batch
        → Takes w.header anchor b batch old new how
        → IsTold anchor b old new (Some batch) how

  -- the run of a job has ended so
  pub record EndsRun (m : Moment w) (j : ℕ) (b : Named B) (ended : Option U) (how : How)
      (now : Moment w) : Type 0 where
    pub run : LiveRun B R
    pub live : at m.state.runs j ≡ Some run
    pub block_is : run.block ≡ b
    pub cache : List (Cached U)
    pub told : IsTold m.state.anchor b m.state.cache cache ended how
    pub pause : Pause
    pub crosses : Crosses w.header b m.state.pause pause
    pub becomes : Becomes w m
        (record m.state { cache = cache; runs = without m.state.runs j; pause = pause })
        (mark.Ended j how ∷ []) now

  -- the run of a job has had a turn, which answers so; it failed only where its count rose
  pub record TurnsRun (count : R → ℕ) (m : w.kind.Members) (j : ℕ) (old new : Tables B C I R U)
      (answer : Result (Moved (Option U)) AppFault) : Type 0 where
    pub live : LiveRun B R
    pub live_is : at old.runs j ≡ Some live
    pub turned : R
    pub turns : IfOk answer (Turns m live.run turned)
    pub failed : IsErrOf answer Failed → Rose (count live.run) (count turned)
    pub state : new ≡ record old { runs = put old.runs j (record live { run = turned }) }

  -- What becomes of a request that waited for a run of the block: its block doesn't go on over a
  -- finalization, or isn't known, and it ends; or it is parked, since the block is being finalized
  -- or a prune is to come; or it goes along its path.
  pub data Follows (b : Named B) (how : How) (r : Released B C I) (m now : Moment w) : Type 0 where
    given_up : IsGivenUp w.header m.state.pause b
        → Concludes w m r.ticket (requested r.request) Invalid now
        → Follows b how r m now
    at_boundary : AwaitsBoundary m.state.pause b how
        → Becomes w m (moved m.state r.ticket (requested r.request) (Parked r.path)) [] now
        → Follows b how r m now
    failed : (AwaitsBoundary m.state.pause b how → ⊥) → (IsIn m.state.cache b.digest → ⊥)
        → Concludes w m r.ticket (requested r.request) Invalid now → Follows b how r m now
    parked : m.state.pause ≡ Pruning → IsIn m.state.cache b.digest
        → Becomes w m (moved m.state r.ticket (requested r.request) (Parked r.path)) [] now
        → Follows b how r m now
    goes_on : (IsGivenUp w.header m.state.pause b → ⊥)
        → (AwaitsBoundary m.state.pause b how → ⊥)
        → m.state.pause ≢ Pruning
        → IsIn m.state.cache b.digest
        → Advances w m r.ticket (requested r.request) r.path now → Follows b how r m now

  -- the run of a job has ended, and the requests that waited for it follow, by ascending tickets
  pub record Settles (m : Moment w) (j : ℕ) (ended : Option U) (now : Moment w) : Type 0 where
    pub block : Named B
    pub how : How
    pub done : Moment w
    pub ends : EndsRun m j block ended how done
    pub follow : InTurn (Follows block how) (released_on j done.state.requests)
        (record done { state = released j done.state }) now

  -- what a turn's answer leads to: nothing where the run goes on, and where it has ended what
  -- follows
  abbrev pub SettlesBy : Moment w → ℕ → Result (Moved (Option U)) AppFault → Moment w → Type 0
  SettlesBy m j (Ok Pending) now = now ≡ m
  SettlesBy m j (Ok (Done ended)) now = Settles m j ended now
  SettlesBy m j (Err fault) now = ⊥

  -- the run of a job has had a turn, and what its answer leads to
  pub record Steps (count : R → ℕ) (m : Moment w) (j : ℕ) (now : Moment w) : Type 0 where
    pub running : Tables B C I R U
    pub answer : Result (Moved (Option U)) AppFault
    pub turns : TurnsRun count m.members j m.state running answer
    pub settles : SettlesBy (record m { state = running }) j answer now
