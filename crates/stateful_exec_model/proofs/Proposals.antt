-- How builds are started.
use Rattle.std.proofs.Common.{◌≡◌, ◌⊎◌, ℕ, List, Option, Some, None, refl, ap, ◌∙◌, subst, inl, inr}
use Rattle.stateful_base.specs.Names.{Named}
use Rattle.stateful_exec_model.specs.Workings.{Workings, Point}
use Rattle.stateful_exec_tables.specs.Tables.{IsLeft}
use Rattle.stateful_exec_model.specs.Starting.{IsOver}
use Rattle.stateful_exec_model.specs.Causes.{FaultsStart}
use Rattle.stateful_exec_tables.specs.Queueing.{IsReady, Unqueues}
use Rattle.stateful_exec_model.specs.Building.{IsNewBuild, Proposes, FaultsPropose, starts, declines, memory, starting}
use Rattle.stateful_exec_tables.specs.Queueing.Unqueues.{ready, declined}
use Rattle.stateful_exec_model.specs.declared.building.Building.{Building}
use Rattle.stateful_exec_model.specs.declared.building.BuildStart.TheVariants.{Started, Declined}
use Rattle.stateful_exec_tables.specs.declared.error.ExecError.{ExecError}
use Rattle.stateful_exec_tables.specs.declared.error.ExecError.TheVariants.{OutOfMemory, Exhausted}
use Rattle.stateful_exec_tables.specs.declared.queued.Queued.{Queued}
use Rattle.stateful_exec_walk.specs.declared.request.Proposal.{Proposal}
use Rattle.stateful_exec_tables.specs.declared.state.Tables.{Tables}

module _ {B C I P R D H G U : Type 0} (w : Workings B C I P R D H G U) (t : ℕ) (provider : P) (m : w.kind.Members) (next : w.Ids) (old new : Tables B C I R U) (before : Option (Building B C D)) where
  pub not_started : (found : Option (Queued B C I)) → found ≡ None → Unqueues old t new found → Proposes w t provider m next next old new before before Declined
  not_started None is (declined none state) = declines none state refl refl
  not_started (Some q) is unqueues = cc

  abbrev live_build : Queued B C I → D → Building B C D
  live_build q live = record { job = q.job; ticket = t; kind = q.proposal.kind; context = q.proposal.context; parent = q.parent; build = live }

  module _ (q : Queued B C I) where
    pub started : (now : w.Ids) (live : D) (found : Option (Queued B C I)) → found ≡ Some q → Unqueues old t new found → (w.kind.Spent next → ⊥) → (w.kind.point m ≡ None → ⊥)
        → IsOver w new.anchor.digest new.cache m next now (λ p c. IsNewBuild w live q.proposal provider next p c) q.parent.digest
        → ((c : List (Point w)) → w.kind.issued next c → w.kind.issued now c)
        → Proposes w t provider m next now old new before (Some (live_build q live)) (Started q.job)
    started now live found found_is unqueues spent here over keeps = go (subst (λ (o : Option (Queued B C I)). Unqueues old t new o) found_is unqueues)
      where
        go : Unqueues old t new (Some q) → Proposes w t provider m next now old new before (Some (live_build q live)) (Started q.job)
        go (ready is parent job left state) = starts job (record {
          proposal = q.proposal;
          ready = is;
          job_left = left;
          ids_left = spent;
          here = here;
          live = live;
          build_is =
              ap (λ (j : ℕ). Some (record { job = j; ticket = t; kind = q.proposal.kind; context = q.proposal.context; parent = q.parent; build = live })) job
              ∙ ap (λ (b : Named B). Some (record { job = old.next_job; ticket = t; kind = q.proposal.kind; context = q.proposal.context; parent = b; build = live })) parent;
          state = state;
          over =
              let built = subst (λ (v : Tables B C I R U). IsOver w v.anchor.digest v.cache m next now (λ p c. IsNewBuild w live q.proposal provider next p c) q.parent.digest) state over in
              subst (λ (b : Named B). IsOver w old.anchor.digest old.cache m next now (λ p c. IsNewBuild w live q.proposal provider next p c) b.digest) parent built;
          keeps = keeps;
        })

    pub not_begun : (rose : Type 0) (e : ExecError) (found : Option (Queued B C I)) → found ≡ Some q → Unqueues old t new found → ((job : ℕ) → IsLeft job → FaultsStart w rose job m next e) → FaultsPropose w rose t m next old e
    not_begun rose e found found_is unqueues faults = go (subst (λ (o : Option (Queued B C I)). Unqueues old t new o) found_is unqueues)
      where
        go : Unqueues old t new (Some q) → FaultsPropose w rose t m next old e
        go (ready is parent job left state) = starting is (faults old.next_job left)

  pub not_unqueued : (rose : Type 0) (e : ExecError) → (e ≡ OutOfMemory) ⊎ ((e ≡ Exhausted) × (IsLeft old.next_job → ⊥) × (p : Proposal B C I) × IsReady old t p) → FaultsPropose w rose t m next old e
  not_unqueued rose e (inl is) = memory is
  not_unqueued rose e (inr is) = starting is.3 (rw is.0 (inl is.1))
