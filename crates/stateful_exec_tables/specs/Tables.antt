-- The tables, and how a request changes them.
use Rattle.std.specs.Prelude.{◌≡◌, ◌≢◌, ◌+◌, ◌-◌, ◌^◌, ◌<◌, ◌≤◌, ◌++◌, ◌∷◌, [], ℕ, List, true}
use Rattle.std.specs.Prelude.{false, All, MatchOption}
use Rattle.stateful_base.specs.declared.digest.Digest.{Digest}
use Rattle.stateful_table.specs.Table.{put, at, without}
use Rattle.stateful_exec_tables.specs.declared.state.Tables.{Tables}
use Rattle.stateful_history.specs.declared.mark.Mark.{Mark}
use Rattle.stateful_exec_cache.specs.Cache.{IsAtHand}
use Rattle.stateful_exec_walk.specs.declared.request.Request.{Request}
use Rattle.stateful_exec_walk.specs.declared.request.Request.TheVariants.{Verify, Recover}
use Rattle.stateful_exec_walk.specs.declared.request.Verdict.{Verdict}
use Rattle.stateful_exec_walk.specs.declared.request.Verdict.TheVariants.{Valid, Invalid}
use Rattle.stateful_exec_tables.specs.Phase.{not_on}
use Rattle.stateful_exec_tables.specs.declared.tables.Phase.{Phase}
use Rattle.stateful_exec_tables.specs.declared.tables.Phase.TheVariants.{Open}
use Rattle.stateful_exec_tables.specs.declared.tables.Requested.{Requested}
use Rattle.stateful_history.specs.declared.mark.Mark.TheVariants as mark

-- the number isn't the last one
abbrev pub IsLeft : ℕ → Type 0
IsLeft number = number < 2 ^ 64 - 1

-- the numbers that are drawn next don't fall
abbrev pub Rises : {B C I R U : Type 0} → (old new : Tables B C I R U) → Type 0
Rises old new = (old.next_job ≤ new.next_job) × (old.next_fetch ≤ new.next_fetch)

-- a request for which nothing was acquired
abbrev pub requested : {B C I : Type 0} → Request B C I → Requested B C I
requested request = record { request = request; acquired = []; phase = Open }

-- what a request is answered with
abbrev pub told : {B C I : Type 0} → ℕ → Request B C I → Verdict → List (Mark B)
told t (Verify u ancestry) Valid = mark.Verdict t true ∷ []
told t (Verify u ancestry) Invalid = mark.Verdict t false ∷ []
told t (Recover u context ancestry input kind) Valid = []
told t (Recover u context ancestry input kind) Invalid = mark.Declined t ∷ []

-- A request that is served is taken out of its table.
module _ {B C I R U : Type 0} (v : Tables B C I R U) where
  abbrev pub taken : ℕ → Tables B C I R U
  taken t = record v { requests = without v.requests t }

  -- the request of this ticket has come so far
  abbrev pub moved : ℕ → Requested B C I → Phase B → Tables B C I R U
  moved t r phase = record v { requests = put v.requests t (record r { phase = phase }) }

  -- the request of this ticket has ended; a proposal whose parent is known is queued
  abbrev pub ended : ℕ → Request B C I → Verdict → Tables B C I R U
  ended t (Recover u context ancestry input kind) Valid = record v {
    queued =
        put v.queued t
        (record { context = context; ancestry = ancestry; input = input; kind = kind });
    recovered = v.recovered ++ t ∷ [];
  }
  ended t request verdict = v

  abbrev pub Knows : Digest → Type 0
  Knows digest = IsAtHand v.anchor v.cache digest

  -- the live run of this job is of the block of this digest
  abbrev pub HasRun : Digest → ℕ → Type 0
  HasRun digest j = MatchOption (at v.runs j) ⊥ (λ run. run.block.digest ≡ digest)

  -- no live run is of the block of this digest
  abbrev pub RunsNone : Digest → Type 0
  RunsNone digest = All (λ e. e.1.block.digest ≢ digest) v.runs

-- the requests that wait for the run of a job are taken out of their table
abbrev pub released : {B C I R U : Type 0} → ℕ → Tables B C I R U → Tables B C I R U
released job v = record v { requests = not_on job v.requests }
