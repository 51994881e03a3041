-- What a live request or receipt waits for.
use Rattle.std.specs.Prelude.{◌≡◌, ◌≢◌, ◌⊎◌, ℕ, Option, None, IsSome}
use Rattle.stateful_base.specs.Names.{Named}
use Rattle.stateful_base.specs.declared.digest.Digest.{Digest}
use Rattle.stateful_history.specs.Setting.{Setting}
use Rattle.stateful_history.specs.Telling.{Telling}
use Rattle.stateful_history.specs.Past.{Past}
use Rattle.stateful_history.specs.Asked.{verified}
use Rattle.stateful_history.specs.Live.{live_ticket}
use Rattle.stateful_history.specs.Requests.{StandsOn, IsLiveVerification, IsLiveReceipt}
use Rattle.stateful_history.specs.Fetches.{HasFetch, Abstains}
use Rattle.stateful_history.specs.Jobs.{IsLiveJob, IsOutstandingCandidate, HasOutstandingRun}
use Rattle.stateful_history.specs.Jobs.{HasOutstandingBuild, HasOutstandingHook}
use Rattle.stateful_history.specs.Barriers.{HasOutstandingBarrier}
use Rattle.stateful_history.specs.Finalizations.{begun}
use Rattle.stateful_history.specs.Prunes.{PruneRule, HasPending}
use Rattle.stateful_history.specs.declared.mark.JobKind.TheVariants.{Hook}

-- a finalization goes on: from its begin to the apply of its block, and to the end of its hook
abbrev pub IsFinalizing : {B C I : Type 0} → Past B C I → Type 0
IsFinalizing p = IsSome (begun p) ⊎ ((j : ℕ) × (d : Digest) × IsLiveJob j Hook d p)

module _ {B C I S T : Type 0} (s : Setting B S T) (a : Telling B C I S) (count : ℕ)
    (rule : Option (PruneRule T)) (base : S) (p : Past B C I) where
  -- The request or receipt of this ticket waits for outstanding work: a fetch of its own; nothing
  -- that was begun, where its verification abstains; a candidate run of a block on which it stands;
  -- the run or hook of a finalization that goes on; what a due prune awaits; a build, where it
  -- isn't a verification; a barrier, where it is a receipt.
  pub data Waits (t : ℕ) : Type 0 where
    fetch : HasFetch t p → Waits t
    abstention : {b : Named B} → IsLiveVerification t p b → Abstains s t p b → Waits t
    run : {j : ℕ} {b : Named B}
        → IsOutstandingCandidate s a base p j b
        → StandsOn s p t b.digest
        → Waits t
    finalization : IsFinalizing p
        → HasOutstandingRun s a base p ⊎ HasOutstandingHook s a base p
        → Waits t
    prune : HasPending s rule p
        → HasOutstandingRun s a base p ⊎ HasOutstandingBarrier count p
        → Waits t
    build : verified t p ≡ None → HasOutstandingBuild s a base p → Waits t
    barrier : IsLiveReceipt t p → HasOutstandingBarrier count p → Waits t

  -- all that stays unanswered waits for outstanding work
  abbrev pub AllWait : Type 0
  AllWait = (t : ℕ) → live_ticket t p ≢ None → Waits t
