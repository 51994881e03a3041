-- Why a request to build is declined.
use Rattle.std.specs.Prelude.{◌≡◌, ◌≢◌, ◌⊎◌, ◌+◌, ℕ, Some, None, List, ◌∷◌, MatchOption}
use Rattle.stateful_base.specs.Names.{Named}
use Rattle.stateful_base.specs.declared.outcome.Handoff.TheVariants as handed
use Rattle.stateful_history.specs.Setting.{Setting, parent_of, height_of}
use Rattle.stateful_history.specs.Telling.{Telling}
use Rattle.stateful_history.specs.Past.{Past, Made}
use Rattle.stateful_history.specs.Opening.{IsSyncing}
use Rattle.stateful_history.specs.Met.{Met}
use Rattle.stateful_history.specs.Known.{IsUnknown}
use Rattle.stateful_history.specs.States.{HasState}
use Rattle.stateful_history.specs.Reasons.{Missing, IsCovered, FailsOnKnown}
use Rattle.stateful_history.specs.Requests.{Proposal, asked_by, proposed}
use Rattle.stateful_history.specs.Asked.{asked_for}
use Rattle.stateful_history.specs.Jobs.{job_of, started_for}
use Rattle.stateful_history.specs.Stops.{IsStopped}
use Rattle.stateful_history.specs.declared.event.Event.{Event}
use Rattle.stateful_history.specs.declared.event.Event.TheVariants.{Fetched}
use Rattle.stateful_history.specs.declared.mark.JobKind.TheVariants.{Build}
use Rattle.stateful_history.specs.declared.mark.How.TheVariants.{Nothing}
use Rattle.stateful_history.specs.declared.mark.Mark.{Mark}
use Rattle.stateful_history.specs.declared.mark.Mark.TheVariants.{Ended, Declined}

module _ {B C I S T : Type 0} (s : Setting B S T) (a : Telling B C I S) (base : S) where
  -- the block isn't one above its parent
  pub record IsSkipping (p : Past B C I) (b : Named B) : Type 0 where
    pub parent : Named B
    pub met : Met s p parent
    pub is_parent : parent.digest ≡ parent_of s b
    pub skips : height_of s b ≢ height_of s parent + 1

  -- The parent can't be made known: a missing block of it is bad on a known one, or isn't one above
  -- its parent, or is no higher than the tip.
  pub record IsOutOfReach (p : Past B C I) (parent : Named B) : Type 0 where
    pub unknown : IsUnknown s p parent.digest
    pub because : FailsOnKnown s base p parent
        ⊎ ((x : Named B) × Missing s base p parent x × (IsSkipping p x ⊎ IsCovered s base p x))

  -- the build for the request just ended without a block, and the application gives none on the
  -- parent's states
  pub record BuildsNothing (p : Past B C I) (r : Proposal B C I) : Type 0 where
    pub job : ℕ
    pub before : Past B C I
    pub ended : p ≡ Made (Ended job Nothing) ∷ before
    pub started : started_for job before ≡ Some (job_of Build r.parent.digest)
    pub state : S
    pub has_state : HasState s base before r.parent.digest state
    pub declines : a.gives (asked_by r) state handed.Wait

  -- Why the request is declined: the machine syncs; it stops or starts; a fetch of the request is
  -- answered none; its parent is out of reach; or a build for it ended without a block.
  abbrev pub MayDecline : Event B C I → List (Mark B) → Past B C I → ℕ → Proposal B C I → Type 0
  MayDecline event marks p t r =
      IsSyncing p
      ⊎ (IsStopped event marks
      ⊎ (((f : ℕ) × (event ≡ Fetched f None) × (asked_for f p ≡ Some (Some t)))
      ⊎ (IsOutOfReach p r.parent
      ⊎ BuildsNothing p r)))

  abbrev pub DeclinedHasReason : Event B C I → List (Mark B) → Past B C I → Mark B → Type 0
  DeclinedHasReason event marks p (Declined t) =
      MatchOption (proposed t p) ⊥ (λ r. MayDecline event marks p t r)
  DeclinedHasReason event marks p mark = Unit {0}
