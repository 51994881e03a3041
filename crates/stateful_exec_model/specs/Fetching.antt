-- Answers of fetches, and cancels.
use Rattle.std.specs.Prelude.{◌≡◌, [], ℕ, Option, Some, None}
use Rattle.stateful_base.specs.Names.{Named}
use Rattle.stateful_exec_model.specs.Workings.{Workings}
use Rattle.stateful_exec_model.specs.Moments.{Moment, Becomes}
use Rattle.stateful_exec_tables.specs.Tables.{taken, moved}
use Rattle.stateful_exec_model.specs.Rules.{Concludes, Acquires}
use Rattle.stateful_exec_model.specs.Causes.{FaultsAcquire}
use Rattle.stateful_exec_tables.specs.declared.error.ExecError.{ExecError}
use Rattle.stateful_exec_tables.specs.declared.error.ExecError.TheVariants.{OutOfMemory}
use Rattle.stateful_exec_walk.specs.declared.request.Verdict.TheVariants.{Invalid}
use Rattle.stateful_exec_tables.specs.declared.tables.Phase.TheVariants.{Waiting}
use Rattle.stateful_exec_tables.specs.declared.tables.Requested.{Requested}
use Rattle.stateful_exec_tables.specs.Fetching.{IsVerification, Fetches, IsLiveFetch, with_block}

module _ {B C I P R D H G U : Type 0} (w : Workings B C I P R D H G U) where
  -- the request of a ticket is served
  abbrev pub serving : Moment w → ℕ → Moment w
  serving m t = record m { state = taken m.state t }

  -- What becomes of a request whose fetch is answered: with the block it acquires what it needs;
  -- without one a verification waits, and a proposal ends. Where no block is fetched under the
  -- number nothing changes.
  pub data IsFetched (stored : ℕ → Option (Named B)) (m : Moment w) (fetch : ℕ)
      (answer : Option (Named B)) (now : Moment w) : Type 0 where
    found : (t : ℕ) (r : Requested B C I) (b : Named B)
        → Fetches m.state fetch t r
        → answer ≡ Some b
        → Acquires w stored (serving m t) t (with_block r b) now
        → IsFetched stored m fetch answer now
    waits : (t : ℕ) (r : Requested B C I)
        → Fetches m.state fetch t r
        → answer ≡ None
        → IsVerification r.request
        → Becomes w m (moved (taken m.state t) t r Waiting) [] now
        → IsFetched stored m fetch answer now
    declines : (t : ℕ) (r : Requested B C I)
        → Fetches m.state fetch t r
        → answer ≡ None
        → (IsVerification r.request → ⊥)
        → Concludes w (serving m t) t r Invalid now → IsFetched stored m fetch answer now
    dead : (IsLiveFetch m.state fetch → ⊥) → now ≡ m → IsFetched stored m fetch answer now

  -- memory ran out, or the request didn't acquire what it needs
  pub data FaultsFetched (rose : Type 0) (stored : ℕ → Option (Named B)) (m : Moment w) (fetch : ℕ)
      (answer : Option (Named B)) (e : ExecError) : Type 0 where
    no_room : e ≡ OutOfMemory → FaultsFetched rose stored m fetch answer e
    acquiring : (t : ℕ) (r : Requested B C I) (b : Named B)
        → Fetches m.state fetch t r
        → answer ≡ Some b
        → FaultsAcquire w rose stored (serving m t) (with_block r b) e
        → FaultsFetched rose stored m fetch answer e
