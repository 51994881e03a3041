-- What becomes of a request whose fetch is answered.
use Rattle.std.proofs.Common.{◌≡◌, ◌++◌, ℕ, Option, Some, None, List, Result, Ok, Err, OnOk, IfErr, refl}
use Rattle.std.proofs.lemmas.List.{append-nil}
use Rattle.stateful_base.specs.Names.{Named}
use Rattle.stateful_history.specs.declared.mark.Mark.{Mark}
use Rattle.stateful_exec_model.specs.Workings.{Workings}
use Rattle.stateful_exec_model.specs.Moments.{Moment, moment}
use Rattle.stateful_exec_tables.specs.Tables.{taken, moved, ended, told}
use Rattle.stateful_exec_model.specs.Rules.{Acquires}
use Rattle.stateful_exec_model.specs.Causes.{FaultsAcquire}
use Rattle.stateful_exec_tables.specs.Fetching.{IsVerification, Fetches, with_block}
use Rattle.stateful_exec_model.specs.Fetching.{serving, IsFetched, found, waits, declines, FaultsFetched, acquiring}
use Rattle.stateful_exec_tables.specs.declared.error.ExecError.{ExecError}
use Rattle.stateful_exec_walk.specs.declared.request.Request.{Request}
use Rattle.stateful_exec_walk.specs.declared.request.Request.TheVariants.{Verify, Recover}
use Rattle.stateful_exec_walk.specs.declared.request.Verdict.TheVariants.{Invalid}
use Rattle.stateful_exec_tables.specs.declared.state.Tables.{Tables}
use Rattle.stateful_exec_tables.specs.declared.tables.Phase.TheVariants.{Waiting}
use Rattle.stateful_exec_tables.specs.declared.tables.Requested.{Requested}

module _ {B C I P R D H G U : Type 0} (w : Workings B C I P R D H G U) (stored : ℕ → Option (Named B)) (m now : Moment w) (fetch t : ℕ) (r : Requested B C I) (answer : Option (Named B)) (b : Named B) (fetches : Fetches m.state fetch t r) (is : answer ≡ Some b) where
  pub answered : {T E : Type 0} (result : Result T E) → OnOk result (Acquires w stored (serving w m t) t (with_block r b) now) → OnOk result (IsFetched w stored m fetch answer now)
  answered (Ok x) acquires = found t r b fetches is acquires
  answered (Err e) acquires = tt

  pub refused : (rose : Type 0) {T : Type 0} (result : Result T ExecError) → IfErr result (FaultsAcquire w rose stored (serving w m t) (with_block r b)) → IfErr result (FaultsFetched w rose stored m fetch answer)
  refused rose (Ok x) faults = tt
  refused rose (Err e) faults = acquiring t r b fetches is faults

module _ {B C I P R D H G U : Type 0} (w : Workings B C I P R D H G U) (stored : ℕ → Option (Named B)) (members : w.kind.Members) (next : w.Ids) (old new : Tables B C I R U) (before after : List (Mark B)) (fetch t : ℕ) where
  pub unanswered : (r : Requested B C I) (answer : Option (Named B)) → Fetches old fetch t r → answer ≡ None
      → (IsVerification r.request → (new ≡ moved (taken old t) t r Waiting) × (after ≡ before))
      → ((IsVerification r.request → ⊥) → (new ≡ ended (taken old t) t r.request Invalid) × (after ≡ before ++ told t r.request Invalid))
      → IsFetched w stored (moment w old members next before) fetch answer (moment w new members next after)
  unanswered r answer fetches none abstains ends = go r.request refl
    where
      go : (request : Request B C I) → r.request ≡ request → IsFetched w stored (moment w old members next before) fetch answer (moment w new members next after)
      go (Verify u ancestry) is =
          let verification : IsVerification r.request = rw is tt in
          let done = abstains verification in
          waits t r fetches none verification (rw (done.0, done.1, append-nil before) refl)
      go (Recover u context ancestry input kind) is =
          let proposal : IsVerification r.request → ⊥ = (λ v. rw is at v) in
          let done = ends proposal in
          declines t r fetches none proposal (rw (done.0, done.1) refl)
