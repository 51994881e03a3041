-- The finalization that goes on stands for a past.
use Rattle.std.specs.Prelude.{◌≡◌, ◌<◌, ℕ, Option, Some, IfSome, [], ◌∷◌, MatchOption}
use Rattle.stateful_base.specs.Names.{Named}
use Rattle.stateful_base.specs.Anchor.{anchor_by}
use Rattle.stateful_base.specs.declared.anchor.Anchor.{Anchor}
use Rattle.stateful_base.specs.declared.digest.Digest.{Digest}
use Rattle.stateful_base.specs.declared.outcome.Finality.{Finality}
use Rattle.stateful_base.specs.declared.outcome.Finality.TheVariants as finality
use Rattle.stateful_db.specs.Works.{run_of, hook_of}
use Rattle.stateful_db.specs.declared.application.Hooked.TheVariants.{Pending}
use Rattle.stateful_history.specs.Setting.{parent_of}
use Rattle.stateful_history.specs.Past.{Past}
use Rattle.stateful_history.specs.Finalizations.{begun}
use Rattle.stateful_history.specs.Jobs.{IsLiveJob, turns}
use Rattle.stateful_history.specs.Joined.{Matches}
use Rattle.stateful_history.specs.declared.mark.JobKind.TheVariants.{Finalized, Hook}
use Rattle.stateful_exec_model.specs.Workings.{Workings, Point}
use Rattle.stateful_exec_model.specs.declared.front.Front.{Front}
use Rattle.stateful_exec_model.specs.declared.front.Stage.{Stage}
use Rattle.stateful_exec_model.specs.declared.front.Stage.TheVariants.{Begun, Running, Ran, Advanced}
use Rattle.stateful_exec_model.specs.declared.front.Stage.TheVariants.{Hooking}
use Rattle.stateful_exec_laws.specs.Setting.{setting}

-- each run takes some turn, where that is told
abbrev pub RunsTakeTurns : {B C I P R D H G U : Type 0} → Workings B C I P R D H G U → Type 0
RunsTakeTurns {B} w =
    (f : Finality) (s : w.States) (b : B) (n : ℕ) → w.works.run_cost f s b ≡ Some n → 0 < n

-- the run of this job, or its hook
abbrev pub RunsAs : {R U H : Type 0} → ℕ → Stage R U H → Type 0
RunsAs j (Running k run) = k ≡ j
RunsAs j stage = ⊥

abbrev pub HooksAs : {R U H : Type 0} → ℕ → Stage R U H → Type 0
HooksAs j (Hooking k hook) = k ≡ j
HooksAs j stage = ⊥

module _ {B C I P R D H G U : Type 0} (w : Workings B C I P R D H G U)
    (stored : ℕ → Option (Named B)) (p : Past B C I) (point : Point w) (next : w.Ids) where
  -- the run is of a live job for the block, in the block's context, over the states of the
  -- databases, and has had the job's turns, fewer than it takes, where that is told
  pub record IsRunFinal (b : Named B) (j : ℕ) (run : R) : Type 0 where
    pub job : IsLiveJob j Finalized b.digest p
    pub own : w.Ids
    pub drawn : (s : w.States) → w.kind.issued next ((own, s) ∷ point ∷ [])
    pub round : w.round_of (w.context_of b.block) ≡ w.header.round b.block
    pub runs : w.works.runs run
        (run_of finality.Finalized (w.context_of b.block)
        (record { first = b; rest = [] }) own point [])
        (turns j p)
    pub unfinished : (n : ℕ)
        → w.works.run_cost finality.Finalized point.1 b.block ≡ Some n
        → turns j p < n

  -- the batch shows states to which the block leads from those of the databases, and they match
  pub record IsRunTo (b : Named B) (batch : U) : Type 0 where
    pub own : w.Ids
    pub states : w.States
    pub drawn : w.kind.issued next ((own, states) ∷ point ∷ [])
    pub matches : Matches (setting w stored) point.1 b states
    pub shows : w.shows batch ((own, states) ∷ point ∷ [])

  -- the hook is of a live job, in the context of the block, whose states the databases hold, and
  -- has had the job's turns, fewer than it takes, where that is told
  pub record IsHooking (b : Named B) (j : ℕ) (hook : H) : Type 0 where
    pub job : IsLiveJob j Hook b.digest p
    pub round : w.round_of (w.context_of b.block) ≡ w.header.round b.block
    pub before : w.States
    pub hooks : w.works.hooks (Pending hook) (hook_of (w.context_of b.block) b.block before point.1)
        (turns j p)
    pub unfinished : (n : ℕ) → w.works.hook_cost b.block point.1 ≡ Some n → turns j p < n

  module _ (anchor : Anchor) where
    -- the block is the next one to be applied, and a child of the anchor
    pub record IsBegun (b : Named B) : Type 0 where
      pub begun_is : begun p ≡ Some b
      pub parent_is : parent_of (setting w stored) b ≡ anchor.digest

    -- how far the finalization of a block has come: its block is to be run, is run or was run; or
    -- it is the anchor
    abbrev pub IsAtStage : Named B → Stage R U H → Type 0
    IsAtStage b Begun = IsBegun b
    IsAtStage b (Running j run) = IsBegun b × IsRunFinal b j run
    IsAtStage b (Ran batch) = IsBegun b × IsRunTo b batch
    IsAtStage b Advanced = anchor ≡ anchor_by w.header b
    IsAtStage b (Hooking j hook) = (anchor ≡ anchor_by w.header b) × IsHooking b j hook

    -- The finalization has come so far, if one goes on; and each live run of a finalized block, and
    -- each live hook, is its one.
    pub record FrontStands (front : Option (Front B R U H)) : Type 0 where
      pub at_stage : IfSome front (λ f. IsAtStage f.block f.stage)
      pub runs : (j : ℕ) (d : Digest)
          → IsLiveJob j Finalized d p
          → MatchOption front ⊥ (λ f. RunsAs j f.stage)
      pub hooks : (j : ℕ) (d : Digest)
          → IsLiveJob j Hook d p
          → MatchOption front ⊥ (λ f. HooksAs j f.stage)
