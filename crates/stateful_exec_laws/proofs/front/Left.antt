-- The finalization that goes on stands behind what says nothing of it; and what its begin says of the past.
use Rattle.std.proofs.Common.{◌≡◌, ◌⊎◌, inl, inr, ℕ, List, ◌∷◌, [], Option, Some, None, IfSome, refl, ap, ◌∙◌, subst}
use Rattle.stateful_base.specs.Names.{Header, Named}
use Rattle.stateful_base.specs.Anchor.{anchor_by}
use Rattle.stateful_base.specs.declared.anchor.Anchor.{Anchor}
use Rattle.stateful_base.specs.declared.digest.Digest.{Digest}
use Rattle.stateful_history.specs.Setting.{Setting}
use Rattle.stateful_history.specs.Past.{Past, Item, Came, Made}
use Rattle.stateful_history.specs.Anchors.{tip_of}
use Rattle.stateful_history.specs.Finalizations.{begun}
use Rattle.stateful_history.specs.Jobs.{IsLiveJob}
use Rattle.stateful_history.specs.Met.{Met}
use Rattle.stateful_history.specs.declared.event.Event.TheVariants.{Restart}
use Rattle.stateful_history.specs.declared.mark.JobKind.TheVariants.{Finalized, Hook}
use Rattle.stateful_history.specs.declared.mark.Mark.TheVariants.{Opened, Converged, Began, Applied}
use Rattle.stateful_exec_model.specs.Workings.{Workings, Point}
use Rattle.stateful_exec_model.specs.declared.front.Front.{Front}
use Rattle.stateful_exec_model.specs.declared.front.Stage.{Stage}
use Rattle.stateful_exec_model.specs.declared.front.Stage.TheVariants.{Begun, Running, Ran, Advanced, Hooking}
use Rattle.stateful_exec_laws.specs.Fronting.{RunsAs, HooksAs, IsBegun, IsAtStage, FrontStands}
use Rattle.stateful_exec_laws.proofs.requests.Calm.{LeavesJob}

module _ {B C I : Type 0} where
  -- the block that is to be applied next is the tip
  pub begun-tip : (header : Header B) (p : Past B C I) (b : Named B) → begun p ≡ Some b → tip_of header p ≡ Some (anchor_by header b)
  begun-tip header [] b is = let no : None ≡ Some b = is in cc
  begun-tip header (Came (Restart floor keep) ∷ p) b is = let no : None ≡ Some b = is in cc
  begun-tip header (Made (Opened anchor) ∷ p) b is = let no : None ≡ Some b = is in cc
  begun-tip header (Made (Converged anchor) ∷ p) b is = let no : None ≡ Some b = is in cc
  begun-tip header (Made (Began t c) ∷ p) b is = let same : c ≡ b = search in ap (λ x. Some (anchor_by header x)) same
  begun-tip header (Made (Applied c) ∷ p) b is = let no : None ≡ Some b = is in cc
  begun-tip header (item ∷ p) b is = begun-tip header p b is

  -- it is a block of the history
  pub begun-Met : {S T : Type 0} (s : Setting B S T) (p : Past B C I) (b : Named B) → begun p ≡ Some b → Met s p b
  begun-Met s [] b is = let no : None ≡ Some b = is in cc
  begun-Met s (Came (Restart floor keep) ∷ p) b is = let no : None ≡ Some b = is in cc
  begun-Met s (Made (Opened anchor) ∷ p) b is = let no : None ≡ Some b = is in cc
  begun-Met s (Made (Converged anchor) ∷ p) b is = let no : None ≡ Some b = is in cc
  begun-Met s (Made (Began t c) ∷ p) b is = let same : b ≡ c = search in inl same
  begun-Met s (Made (Applied c) ∷ p) b is = let no : None ≡ Some b = is in cc
  begun-Met s (item ∷ p) b is = inr (begun-Met s p b is)

-- the item says nothing of the finalization that goes on, and starts no run and no hook of one
pub record SparesFront {B C I R U H : Type 0} (p : Past B C I) (x : Item B C I) (front : Option (Front B R U H)) : Type 0 where
  pub begun : begun (x ∷ p) ≡ begun p
  pub jobs : IfSome front (λ f. (j : ℕ) → RunsAs j f.stage ⊎ HooksAs j f.stage → LeavesJob p x j)
  pub runs : (j : ℕ) (d : Digest) → IsLiveJob j Finalized d (x ∷ p) → IsLiveJob j Finalized d p
  pub hooks : (j : ℕ) (d : Digest) → IsLiveJob j Hook d (x ∷ p) → IsLiveJob j Hook d p

module _ {B C I P R D H G U : Type 0} (w : Workings B C I P R D H G U) (stored : ℕ → Option (Named B)) (p : Past B C I) (x : Item B C I) (point : Point w) (next ids : w.Ids) (keeps : (c : List (Point w)) → w.kind.issued next c → w.kind.issued ids c) (anchor : Anchor) where
  IsBegun-left : (b : Named B) → begun (x ∷ p) ≡ begun p → IsBegun w stored p point next anchor b → IsBegun w stored (x ∷ p) point ids anchor b
  IsBegun-left b same h = record { begun_is = same ∙ h.begun_is; parent_is = h.parent_is }

  stage-left : (b : Named B) (stage : Stage R U H) → begun (x ∷ p) ≡ begun p → ((j : ℕ) → RunsAs j stage ⊎ HooksAs j stage → LeavesJob p x j) → IsAtStage w stored p point next anchor b stage → IsAtStage w stored (x ∷ p) point ids anchor b stage
  stage-left b Begun same jobs h = IsBegun-left b same h
  stage-left b (Running j run) same jobs h = let leaves = jobs j (inl refl) in (
    IsBegun-left b same h.0,
    record {
      job = record { live = leaves.live ∙ h.1.job.live; is = leaves.started ∙ h.1.job.is };
      own = h.1.own;
      drawn = λ s. keeps _ (h.1.drawn s);
      round = h.1.round;
      runs = rw leaves.turns h.1.runs;
      unfinished = rw leaves.turns h.1.unfinished;
    },
  )
  stage-left b (Ran batch) same jobs h = (IsBegun-left b same h.0, record { own = h.1.own; states = h.1.states; drawn = keeps _ h.1.drawn; matches = h.1.matches; shows = h.1.shows })
  stage-left b Advanced same jobs h = h
  stage-left b (Hooking j hook) same jobs h = let leaves = jobs j (inr refl) in (
    h.0,
    record {
      job = record { live = leaves.live ∙ h.1.job.live; is = leaves.started ∙ h.1.job.is };
      round = h.1.round;
      before = h.1.before;
      hooks = rw leaves.turns h.1.hooks;
      unfinished = rw leaves.turns h.1.unfinished;
    },
  )

  -- the finalization stands behind such an item
  pub FrontStands-spared : (front : Option (Front B R U H)) → SparesFront p x front → FrontStands w stored p point next anchor front → FrontStands w stored (x ∷ p) point ids anchor front
  FrontStands-spared None spares h = record { at_stage = tt; runs = λ j d live. h.runs j d (spares.runs j d live); hooks = λ j d live. h.hooks j d (spares.hooks j d live) }
  FrontStands-spared (Some f) spares h = record {
    at_stage = stage-left f.block f.stage spares.begun spares.jobs h.at_stage;
    runs = λ j d live. h.runs j d (spares.runs j d live);
    hooks = λ j d live. h.hooks j d (spares.hooks j d live);
  }

module _ {B C I P R D H G U : Type 0} (w : Workings B C I P R D H G U) (stored : ℕ → Option (Named B)) (p : Past B C I) (point : Point w) (next ids : w.Ids) (keeps : (c : List (Point w)) → w.kind.issued next c → w.kind.issued ids c) (anchor : Anchor) where
  -- ids that are drawn leave how far a finalization has come
  pub stage-drawn : (b : Named B) (stage : Stage R U H) → IsAtStage w stored p point next anchor b stage → IsAtStage w stored p point ids anchor b stage
  stage-drawn b Begun h = record { begun_is = h.begun_is; parent_is = h.parent_is }
  stage-drawn b (Running j run) h = (record { begun_is = h.0.begun_is; parent_is = h.0.parent_is }, record { job = h.1.job; own = h.1.own; drawn = λ s. keeps _ (h.1.drawn s); round = h.1.round; runs = h.1.runs; unfinished = h.1.unfinished })
  stage-drawn b (Ran batch) h = (record { begun_is = h.0.begun_is; parent_is = h.0.parent_is }, record { own = h.1.own; states = h.1.states; drawn = keeps _ h.1.drawn; matches = h.1.matches; shows = h.1.shows })
  stage-drawn b Advanced h = h
  stage-drawn b (Hooking j hook) h = (h.0, record { job = h.1.job; round = h.1.round; before = h.1.before; hooks = h.1.hooks; unfinished = h.1.unfinished })

  -- its run or hook is a live job
  pub stage-live : (b : Named B) (stage : Stage R U H) → IsAtStage w stored p point next anchor b stage → (k : ℕ) → RunsAs k stage ⊎ HooksAs k stage → (d : Digest) × (IsLiveJob k Finalized d p ⊎ IsLiveJob k Hook d p)
  stage-live b Begun h k own = absurd (elim own [ inl off ↦ off | inr off ↦ off ])
  stage-live b (Running j run) h k (inl is) = (b.digest, inl (subst (λ n. IsLiveJob n Finalized b.digest p) is h.1.job))
  stage-live b (Running j run) h k (inr off) = absurd off
  stage-live b (Ran batch) h k own = absurd (elim own [ inl off ↦ off | inr off ↦ off ])
  stage-live b Advanced h k own = absurd (elim own [ inl off ↦ off | inr off ↦ off ])
  stage-live b (Hooking j hook) h k (inl off) = absurd off
  stage-live b (Hooking j hook) h k (inr is) = (b.digest, inr (subst (λ n. IsLiveJob n Hook b.digest p) is h.1.job))
