-- Prunes: which is due, and the rules on them.
use Rattle.std.specs.Prelude.{◌≡◌, ◌≤◌, ◌⊎◌, ℕ, ◌++◌, nat_lt, true, false, if◌then◌else◌, Option}
use Rattle.std.specs.Prelude.{Some, None, List, [], ◌∷◌, map}
use Rattle.stateful_base.specs.Names.{Named}
use Rattle.stateful_base.specs.declared.digest.Digest.{Digest}
use Rattle.stateful_pruning.specs.Rule.{Schedule, Entry, IsDue, IsPrune}
use Rattle.stateful_pruning.specs.declared.pruning.Prune.{Prune}
use Rattle.stateful_history.specs.Setting.{Setting, height_of}
use Rattle.stateful_history.specs.Telling.{Telling}
use Rattle.stateful_history.specs.Past.{Past, Came, Made}
use Rattle.stateful_history.specs.Opening.{is_down}
use Rattle.stateful_history.specs.Anchors.{applied}
use Rattle.stateful_history.specs.Durable.{durable}
use Rattle.stateful_history.specs.Barriers.{live_barrier, HasOutstandingBarrier}
use Rattle.stateful_history.specs.Jobs.{IsLiveJob, HasOutstandingRun, HasOutstandingBuild}
use Rattle.stateful_history.specs.Jobs.{HasOutstandingHook}
use Rattle.stateful_history.specs.declared.event.Event.TheVariants.{Restart}
use Rattle.stateful_history.specs.declared.mark.JobKind.TheVariants.{Candidate}
use Rattle.stateful_history.specs.declared.mark.Mark.{Mark}
use Rattle.stateful_history.specs.declared.mark.Mark.TheVariants.{Opened, Converged, Applied}
use Rattle.stateful_history.specs.declared.mark.Mark.TheVariants.{Pruned}

-- when a prune is due, and how many operations lie below targets
pub record PruneRule (T : Type 0) : Type 0 where
  pub schedule : Schedule
  pub operations : T → ℕ

module _ {B S T : Type 0} (s : Setting B S T) (rule : PruneRule T) where
  -- what is recorded of a finalized block
  abbrev pub recorded_of : Named B → Entry T
  recorded_of b = record {
    height = height_of s b;
    targets = s.meaning.targets b.block;
    operations = rule.operations (s.meaning.targets b.block);
  }

  -- behind these blocks a prune is due, and is this one
  pub record MakeDue (blocks : List (Named B)) (prune : Prune T) : Type 0 where
    pub due : IsDue rule.schedule (map recorded_of blocks)
    pub is : IsPrune rule.schedule (map recorded_of blocks) prune

module _ {B C I S T : Type 0} (s : Setting B S T) where
  -- the prune that was made due last by what was applied since the opening, as long as none is done
  abbrev pub IsPending : PruneRule T → Past B C I → Prune T → Type 0
  IsPending rule [] prune = ⊥
  IsPending rule (Came (Restart floor keep) ∷ p) prune = ⊥
  IsPending rule (Made (Opened anchor) ∷ p) prune = ⊥
  IsPending rule (Made (Converged anchor) ∷ p) prune = ⊥
  IsPending rule (Made (Pruned marshal target) ∷ p) prune = ⊥
  IsPending rule (Made (Applied b) ∷ p) prune =
      MakeDue s rule (applied p ++ b ∷ []) prune
      ⊎
      ((IsDue rule.schedule (map (recorded_of s rule) (applied p ++ b ∷ [])) → ⊥)
      × IsPending rule p prune)
  IsPending rule (item ∷ p) prune = IsPending rule p prune

  -- some prune is due and isn't done; a machine without a rule prunes nothing
  abbrev pub HasPending : Option (PruneRule T) → Past B C I → Type 0
  HasPending None p = ⊥
  HasPending (Some rule) p = (prune : Prune T) × IsPending rule p prune

  -- a prune that is due, to these heights, whose target is durable, where no candidate runs and no
  -- barrier is live
  pub record MayPrune (rule : PruneRule T) (p : Past B C I) (marshal target : ℕ) : Type 0 where
    pub prune : Prune T
    pub pending : IsPending rule p prune
    pub marshal_is : prune.marshal_height.0 ≡ marshal
    pub target_is : prune.barrier_height.0 ≡ target
    pub durable : target ≤ durable p
    pub no_run : (j : ℕ) (d : Digest) → IsLiveJob j Candidate d p → ⊥
    pub no_barrier : (k : ℕ) → live_barrier k p ≡ false

  abbrev pub PrunedIsDue : Option (PruneRule T) → Past B C I → Mark B → Type 0
  PrunedIsDue None p (Pruned marshal target) = ⊥
  PrunedIsDue (Some rule) p (Pruned marshal target) = MayPrune rule p marshal.0 target.0
  PrunedIsDue rule p mark = Unit {0}

  -- at the end of an entry a prune that is due waits for a job or a barrier, or the machine has
  -- stopped
  abbrev pub PendingWaits : Telling B C I S → S → ℕ → Option (PruneRule T) → Past B C I → Type 0
  PendingWaits a base count rule p = HasPending rule p
      → (is_down p ≡ true)
      ⊎ (HasOutstandingRun s a base p
      ⊎ (HasOutstandingBuild s a base p
      ⊎ (HasOutstandingHook s a base p
      ⊎ HasOutstandingBarrier count p)))

-- the store without its blocks below this height, and otherwise as before
abbrev pub IsStorePruned : {B : Type 0}
    → ℕ
    → (ℕ → Option (Named B))
    → (ℕ → Option (Named B))
    → Type 0
IsStorePruned marshal old new = (h : ℕ) → new h ≡ (if nat_lt h marshal then None else old h)
