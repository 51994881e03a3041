-- Proposals that leave the queue.
use Rattle.std.proofs.Common.{◌≡◌, ◌+◌, ℕ, List, Some, None, Result, IfErr, IsErrAnd, sym, ap, ◌∙◌, subst}
use Rattle.std.proofs.lemmas.Result.{err_from_is_err_and}
use Rattle.stateful_base.specs.Names.{Named}
use Rattle.stateful_table.specs.Table.{at, without}
use Rattle.stateful_exec_tables.specs.Tables.{IsLeft}
use Rattle.stateful_exec_tables.specs.Tables.{Knows}
use Rattle.stateful_exec_tables.specs.Queueing.{IsReady, Unqueues}
use Rattle.stateful_exec_tables.specs.Queueing.Unqueues.{ready, declined}
use Rattle.stateful_exec_tables.specs.declared.error.ExecError.{ExecError}
use Rattle.stateful_exec_walk.specs.declared.request.Proposal.{Proposal}
use Rattle.stateful_exec_tables.specs.declared.state.Tables.{Tables}

-- what holds of an error holds where it is handed on
pub handed_on : (X : ExecError → Type 0) → {T : Type 0} (result : Result T ExecError) (e : ExecError) → IsErrAnd result (λ f. f ≡ e) → X e → IfErr result X
handed_on X result e of x = let p = err_from_is_err_and result of in rw (p.1, p.2) x

module _ {B C I R U : Type 0} (v : Tables B C I R U) (t : ℕ) where
  pub not_queued : (queued : List (ℕ × Proposal B C I)) → None ≡ at v.queued t → queued ≡ without v.queued t → Unqueues v t (record v { queued = queued }) None
  not_queued queued none out = declined (λ p r. let k = none ∙ r.queued in cc) (ap (λ (qs : List (ℕ × Proposal B C I)). record v { queued = qs }) out)

  module _ (p : Proposal B C I) (there : Some p ≡ at v.queued t) (queued : List (ℕ × Proposal B C I)) (out : queued ≡ without v.queued t) where
    same : (r : Proposal B C I) → IsReady v t r → p ≡ r
    same r is = let k = there ∙ is.queued in cc

    pub unknown : (Knows v p.ancestry.first.digest → ⊥) → Unqueues v t (record v { queued = queued }) None
    unknown other = declined (λ r is. other (subst (λ (x : Proposal B C I). Knows v x.ancestry.first.digest) (sym (same r is)) is.known)) (ap (λ (qs : List (ℕ × Proposal B C I)). record v { queued = qs }) out)

    pub is_ready : Knows v p.ancestry.first.digest → IsReady v t p
    is_ready known = record { queued = sym there; known = known }

    pub taken_out : (job : ℕ) (parent : Named B) (new : Tables B C I R U) → Knows v p.ancestry.first.digest → parent ≡ p.ancestry.first → job ≡ v.next_job → IsLeft v.next_job
        → new ≡ record v { queued = queued; next_job = v.next_job + 1 } → Unqueues v t new (Some (record { job = job; proposal = p; parent = parent }))
    taken_out job parent new known is drawn left state =
        ready (is_ready known) is drawn left (state ∙ ap (λ (qs : List (ℕ × Proposal B C I)). record v { queued = qs; next_job = v.next_job + 1 }) out)
