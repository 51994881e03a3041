-- Cancels.
use Rattle.std.specs.Prelude.{◌≡◌, ◌≢◌, ◌==◌, not, ◌∷◌, [], ℕ, Some, None, List, filter}
use Rattle.stateful_history.specs.declared.mark.How.TheVariants.{Cancelled}
use Rattle.stateful_history.specs.declared.mark.Mark.{Mark}
use Rattle.stateful_table.specs.Table.{at, without}
use Rattle.stateful_exec_walk.specs.Path.{Path}
use Rattle.stateful_exec_tables.specs.Phase.{tickets_on}
use Rattle.stateful_exec_tables.specs.Tables.{taken}
use Rattle.stateful_exec_tables.specs.declared.state.Tables.{Tables}
use Rattle.stateful_exec_tables.specs.declared.tables.Phase.{Phase}
use Rattle.stateful_exec_tables.specs.declared.tables.Phase.TheVariants.{Fetching, Executing}
use Rattle.stateful_exec_tables.specs.declared.tables.Requested.{Requested}
use Rattle.stateful_exec_tables.specs.Fetching.{Fetches}
use Rattle.stateful_history.specs.declared.mark.Mark.TheVariants as mark

-- the request waits for no run and no fetch
abbrev pub IsIdle : {B : Type 0} → Phase B → Type 0
IsIdle (Fetching fetch) = ⊥
IsIdle (Executing job path) = ⊥
IsIdle phase = Unit {0}

-- What a cancel leaves, and its marks: the request is gone, its fetch is withdrawn, and the run
-- ends that it was the last to wait for; or its build isn't queued any more.
pub data Cancels {B C I R U : Type 0} (old new : Tables B C I R U) (t : ℕ)
    (marks : List (Mark B)) : Type 0 where
  idle : (r : Requested B C I)
      → at old.requests t ≡ Some r
      → IsIdle r.phase
      → new ≡ taken old t
      → marks ≡ []
      → Cancels old new t marks
  withdraws : (r : Requested B C I) (fetch : ℕ)
      → Fetches old fetch t r
      → new ≡ taken old t
      → marks ≡ mark.Withdrawn fetch ∷ []
      → Cancels old new t marks
  leaves : (r : Requested B C I) (j : ℕ) (path : Path B)
      → at old.requests t ≡ Some r
      → r.phase ≡ Executing j path
      → tickets_on j (without old.requests t) ≢ []
      → new ≡ taken old t
      → marks ≡ []
      → Cancels old new t marks
  ends : (r : Requested B C I) (j : ℕ) (path : Path B)
      → at old.requests t ≡ Some r
      → r.phase ≡ Executing j path
      → tickets_on j (without old.requests t) ≡ []
      → new ≡ record (taken old t) { runs = without old.runs j }
      → marks ≡ mark.Ended j Cancelled ∷ [] → Cancels old new t marks
  unqueued : at old.requests t ≡ None
      → new
      ≡ record (taken old t) {
        queued =
            without old.queued t;
        recovered = filter (λ u. not (u == t)) old.recovered;
      }
      → marks ≡ [] → Cancels old new t marks
