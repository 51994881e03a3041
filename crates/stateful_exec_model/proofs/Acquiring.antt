-- What becomes of a request, by what it needs.
use Rattle.std.proofs.Common.{◌≡◌, ◌⊎◌, ◌+◌, ◌++◌, ◌∷◌, [], ℕ, Option, Some, List, Result, IsErrAnd, IfErr, refl, inl, inr}
use Rattle.std.proofs.lemmas.Result.{err_from_is_err_and}
use Rattle.stateful_base.specs.Names.{Named}
use Rattle.stateful_base.specs.declared.digest.Digest.{Digest}
use Rattle.stateful_history.specs.declared.mark.Mark.{Mark}
use Rattle.stateful_history.specs.declared.mark.Mark.TheVariants as mark
use Rattle.stateful_exec_walk.specs.Path.{Path}
use Rattle.stateful_exec_model.specs.Workings.{Workings}
use Rattle.stateful_exec_model.specs.Moments.{Moment, moment}
use Rattle.stateful_exec_tables.specs.Tables.{IsLeft}
use Rattle.stateful_exec_tables.specs.Tables.{moved}
use Rattle.stateful_exec_model.specs.Rules.{Needs, Acquires, asks}
use Rattle.stateful_exec_model.specs.Causes.{FaultsAdvance, FaultsAcquire, memory, no_fetch, running}
use Rattle.stateful_exec_tables.specs.declared.error.ExecError.{ExecError}
use Rattle.stateful_exec_tables.specs.declared.error.ExecError.TheVariants.{OutOfMemory, Exhausted}
use Rattle.stateful_exec_tables.specs.declared.state.Tables.{Tables}
use Rattle.stateful_exec_tables.specs.declared.tables.Phase.TheVariants.{Fetching}
use Rattle.stateful_exec_tables.specs.declared.tables.Requested.{Requested}
use Rattle.stateful_exec_walk.specs.declared.walk.Acquired.TheVariants.{Ask, Ready}

module _ {B C I P R D H G U : Type 0} (w : Workings B C I P R D H G U) (stored : ℕ → Option (Named B)) (members : w.kind.Members) (next : w.Ids) (old new : Tables B C I R U) (before after : List (Mark B)) (t : ℕ) (r : Requested B C I) (digest : Digest) where
  pub asked : Needs w stored (moment w old members next before) r (Ask digest) → IsLeft old.next_fetch
      → new ≡ record (moved old t r (Fetching old.next_fetch)) { next_fetch = old.next_fetch + 1 }
      → after ≡ before ++ mark.Asked old.next_fetch (Some t) digest ∷ []
      → Acquires w stored (moment w old members next before) t r (moment w new members next after)
  asked needs left is marks = asks digest needs left (rw (is, marks) refl)

module _ {B C I P R D H G U : Type 0} (w : Workings B C I P R D H G U) (rose : Type 0) (stored : ℕ → Option (Named B)) (m : Moment w) (r : Requested B C I) {T : Type 0} (result : Result T ExecError) (e : ExecError) (of : IsErrAnd result (λ f. f ≡ e)) where
  pub refused_ask : (digest : Digest) → Needs w stored m r (Ask digest) → (e ≡ OutOfMemory) ⊎ ((e ≡ Exhausted) × (IsLeft m.state.next_fetch → ⊥)) → IfErr result (FaultsAcquire w rose stored m r)
  refused_ask digest needs why = let p = err_from_is_err_and result of in rw (p.1, p.2) (go why)
    where
      go : (e ≡ OutOfMemory) ⊎ ((e ≡ Exhausted) × (IsLeft m.state.next_fetch → ⊥)) → FaultsAcquire w rose stored m r e
      go (inl is) = memory is
      go (inr is) = no_fetch digest is.0 needs is.1

  pub refused_run : (path : Path B) → Needs w stored m r (Ready path) → FaultsAdvance w rose m path e → IfErr result (FaultsAcquire w rose stored m r)
  refused_run path needs faults = let p = err_from_is_err_and result of in rw (p.1, p.2) (running needs faults)
