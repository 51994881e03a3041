-- Runs that several requests share: who waits for one, and that it goes on as long as somebody does.
use Rattle.std.specs.Prelude.{◌≡◌, ◌⊎◌, ℕ, Option, None, List}
use Rattle.stateful_base.specs.Names.{Named}
use Rattle.stateful_base.specs.declared.digest.Digest.{Digest}
use Rattle.stateful_history.specs.Setting.{Setting}
use Rattle.stateful_history.specs.Past.{Past}
use Rattle.stateful_history.specs.Asked.{verified}
use Rattle.stateful_history.specs.Requests.{StandsOn, IsLiveRequest, IsLiveVerification}
use Rattle.stateful_history.specs.Fetches.{HasFetch, Abstains}
use Rattle.stateful_history.specs.Jobs.{IsLiveJob}
use Rattle.stateful_history.specs.Prunes.{PruneRule, HasPending}
use Rattle.stateful_history.specs.Stops.{IsStopped}
use Rattle.stateful_history.specs.Waiting.{IsFinalizing}
use Rattle.stateful_history.specs.declared.event.Event.{Event}
use Rattle.stateful_history.specs.declared.mark.How.TheVariants.{Cancelled}
use Rattle.stateful_history.specs.declared.mark.JobKind.TheVariants.{Candidate, Build}
use Rattle.stateful_history.specs.declared.mark.Mark.{Mark}
use Rattle.stateful_history.specs.declared.mark.Mark.TheVariants.{Ended}

module _ {B C I S T : Type 0} (s : Setting B S T) (rule : Option (PruneRule T))
    (p : Past B C I) where
  -- A live request waits for a live candidate run: it stands on the run's block, and nothing else
  -- is what it waits for. It stands on the block of no other live run, fetches nothing and doesn't
  -- abstain, nothing is being finalized, no prune is due, and where it asks to build, no build is
  -- live.
  pub record WaitsForRun (t j : ℕ) : Type 0 where
    pub digest : Digest
    pub run : IsLiveJob j Candidate digest p
    pub request : IsLiveRequest t p
    pub stands : StandsOn s p t digest
    pub alone : (k : ℕ) (d : Digest) → IsLiveJob k Candidate d p → StandsOn s p t d → k ≡ j
    pub fetches_none : HasFetch t p → ⊥
    pub abstains_not : (b : Named B) → IsLiveVerification t p b → Abstains s t p b → ⊥
    pub finalizes_none : IsFinalizing p → ⊥
    pub prunes_none : HasPending s rule p → ⊥
    pub builds_none : verified t p ≡ None
        → (k : ℕ) (d : Digest)
        → IsLiveJob k Build d p
        → ⊥

-- no run is cancelled for which a request still waits, unless the machine stops or starts
abbrev pub SharedRunGoesOn : {B C I S T : Type 0} → Setting B S T → Option (PruneRule T)
    → Event B C I
    → List (Mark B)
    → Past B C I
    → Mark B
    → Type 0
SharedRunGoesOn s rule event marks p (Ended j Cancelled) =
    ((t : ℕ) → WaitsForRun s rule p t j → ⊥) ⊎ IsStopped event marks
SharedRunGoesOn s rule event marks p mark = Unit {0}
