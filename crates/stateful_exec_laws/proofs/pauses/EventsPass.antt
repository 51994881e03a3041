-- The live build and the finalization that goes on stand behind items that say nothing of jobs.
use Rattle.std.proofs.Common.{◌≡◌, ◌≢◌, ◌⊎◌, ℕ, ◌∷◌, Option, Some, None, IfSome, sym, ◌∙◌}
use Rattle.stateful_base.specs.Names.{Named}
use Rattle.stateful_base.specs.declared.digest.Digest.{Digest}
use Rattle.stateful_history.specs.Past.{Past, Item}
use Rattle.stateful_history.specs.Finalizations.{begun}
use Rattle.stateful_history.specs.Jobs.{IsLiveJob}
use Rattle.stateful_history.specs.declared.mark.JobKind.{JobKind}
use Rattle.stateful_history.specs.declared.mark.JobKind.TheVariants.{Build, Finalized, Hook}
use Rattle.stateful_exec_model.specs.Workings.{Workings, Point}
use Rattle.stateful_exec_model.specs.declared.building.Building.{Building}
use Rattle.stateful_exec_model.specs.declared.front.Front.{Front}
use Rattle.stateful_exec_tables.specs.declared.state.Tables.{Tables}
use Rattle.stateful_exec_laws.specs.Setting.{setting}
use Rattle.stateful_exec_laws.specs.Building.{BuildStands}
use Rattle.stateful_exec_laws.specs.Fronting.{RunsAs, HooksAs, FrontStands}
use Rattle.stateful_base.specs.declared.anchor.Anchor.{Anchor}
use Rattle.stateful_exec_laws.proofs.requests.Calm.{IsCalm, LeavesJob}
use Rattle.stateful_exec_laws.proofs.requests.Asking.{LeavesTicket}
use Rattle.stateful_exec_laws.proofs.ended.ConcludeStands.{TellsOf}
use Rattle.stateful_exec_laws.proofs.builds.Left.{SparesBuild, BuildStands-spared}
use Rattle.stateful_exec_laws.proofs.front.Left.{FrontStands-spared}

-- where an item says nothing of jobs, the live ones of each kind are those before
jobs_before : {B C I : Type 0} (p : Past B C I) (x : Item B C I) → ((j : ℕ) → LeavesJob p x j) → (kind : JobKind) (j : ℕ) (d : Digest) → IsLiveJob j kind d (x ∷ p) → IsLiveJob j kind d p
jobs_before p x jobs kind j d live = let same = jobs j in record { live = sym same.live ∙ live.live; is = sym same.started ∙ live.is }

module _ {B C I P R D H G U : Type 0} (w : Workings B C I P R D H G U) (stored : ℕ → Option (Named B)) (p : Past B C I) (x : Item B C I) (jobs : (j : ℕ) → LeavesJob p x j) where
  -- the live build stands behind an item that says nothing of its request either
  pub BuildStands-event : (points : Digest → Point w) (next : w.Ids) (v : Tables B C I R U) (build : Option (Building B C D)) → IsCalm (setting w stored) p x → IfSome build (λ b. LeavesTicket p x b.ticket) → BuildStands w stored p points next v build
      → BuildStands w stored (x ∷ p) points next v build
  BuildStands-event points next v build calm ticket h = BuildStands-spared w stored p points next v x build (spares build ticket) h
    where
      spares : (o : Option (Building B C D)) → IfSome o (λ b. LeavesTicket p x b.ticket) → SparesBuild w stored p x o
      spares None t = record { built = calm.built; job = tt; ticket = tt; builds = jobs_before p x jobs Build }
      spares (Some b) t = record { built = calm.built; job = jobs b.job; ticket = t; builds = jobs_before p x jobs Build }

  -- what tells of another ticket than the build's leaves it
  pub BuildStands-tells : (points : Digest → Point w) (next : w.Ids) (v : Tables B C I R U) (build : Option (Building B C D)) (t : ℕ) → TellsOf (setting w stored) p x t → IfSome build (λ b. b.ticket ≢ t) → BuildStands w stored p points next v build
      → BuildStands w stored (x ∷ p) points next v build
  BuildStands-tells points next v build t tells other h = BuildStands-event points next v build tells.calm (tickets build other) h
    where
      tickets : (o : Option (Building B C D)) → IfSome o (λ b. b.ticket ≢ t) → IfSome o (λ b. LeavesTicket p x b.ticket)
      tickets None off = tt
      tickets (Some b) off = tells.tickets b.ticket off

  -- the finalization stands behind an item that begins and applies nothing
  pub FrontStands-event : (point : Point w) (next : w.Ids) (anchor : Anchor) (front : Option (Front B R U H)) → begun (x ∷ p) ≡ begun p → FrontStands w stored p point next anchor front → FrontStands w stored (x ∷ p) point next anchor front
  FrontStands-event point next anchor front same h = FrontStands-spared w stored p x point next next (λ c y. y) anchor front (record {
    begun = same;
    jobs = each front;
    runs = jobs_before p x jobs Finalized;
    hooks = jobs_before p x jobs Hook;
  }) h
    where
      each : (o : Option (Front B R U H)) → IfSome o (λ f. (j : ℕ) → RunsAs j f.stage ⊎ HooksAs j f.stage → LeavesJob p x j)
      each None = tt
      each (Some f) = λ j own. jobs j
