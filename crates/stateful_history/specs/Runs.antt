-- Runs, builds and hooks: when they may start, and how they end.
use Rattle.std.specs.Prelude.{◌≡◌, ◌≢◌, ◌⊎◌, ◌++◌, ℕ, Bool, true, false, Option, Some, None, List}
use Rattle.std.specs.Prelude.{[], ◌∷◌, Any, MatchOption}
use Rattle.stateful_base.specs.Names.{Named}
use Rattle.stateful_base.specs.declared.digest.Digest.{Digest}
use Rattle.stateful_history.specs.Setting.{Setting, parent_of}
use Rattle.stateful_history.specs.Past.{Past, Item, Came, Made}
use Rattle.stateful_history.specs.Asked.{kept_by}
use Rattle.stateful_history.specs.Met.{Met}
use Rattle.stateful_history.specs.Known.{Known, IsUnknown}
use Rattle.stateful_history.specs.Live.{live_job}
use Rattle.stateful_history.specs.Jobs.{JobOf, job_of, started_for, IsLiveJob}
use Rattle.stateful_history.specs.Requests.{Proposal, proposed, StandsOn, IsLiveRequest}
use Rattle.stateful_history.specs.Requests.{IsLiveProposal}
use Rattle.stateful_history.specs.Finalizations.{begun}
use Rattle.stateful_history.specs.Stops.{IsStopped}
use Rattle.stateful_history.specs.declared.event.Event.{Event}
use Rattle.stateful_history.specs.declared.event.Event.TheVariants.{Cancel, Turn, Restart}
use Rattle.stateful_history.specs.declared.mark.JobKind.{JobKind}
use Rattle.stateful_history.specs.declared.mark.JobKind.TheVariants.{Candidate, Finalized, Build}
use Rattle.stateful_history.specs.declared.mark.JobKind.TheVariants.{Hook}
use Rattle.stateful_history.specs.declared.mark.How.{How}
use Rattle.stateful_history.specs.declared.mark.How.TheVariants.{Kept, Rejected, Mismatched, Missed}
use Rattle.stateful_history.specs.declared.mark.How.TheVariants.{Cancelled, Nothing, Hooked}
use Rattle.stateful_history.specs.declared.mark.Mark.{Mark}
use Rattle.stateful_history.specs.declared.mark.Mark.TheVariants.{Opened, Converged, Started, Ended}
use Rattle.stateful_history.specs.declared.mark.Mark.TheVariants.{Built, Verdict, Answered}
use Rattle.stateful_history.specs.declared.mark.Mark.TheVariants.{Declined, Dropped, Began, Applied}

-- a job of this kind may end so
abbrev pub fits : JobKind → How → Bool
fits kind Cancelled = true
fits Candidate Kept = true
fits Candidate Rejected = true
fits Candidate Mismatched = true
fits Candidate Missed = true
fits Finalized Kept = true
fits Build Nothing = true
fits Hook Hooked = true
fits kind how = false

module _ {B C I : Type 0} where
  -- the request that the item ends, if it ends one
  abbrev pub ended_by : Item B C I → Option ℕ
  ended_by (Made (Verdict t valid)) = Some t
  ended_by (Made (Answered t decision b)) = Some t
  ended_by (Made (Declined t)) = Some t
  ended_by (Made (Dropped t)) = Some t
  ended_by (Came (Cancel t)) = Some t
  ended_by item = None

  -- a finalized run was started since a finalization began
  abbrev pub ran_finalized : Past B C I → Bool
  ran_finalized [] = false
  ran_finalized (Made (Began t b) ∷ p) = false
  ran_finalized (Made (Started j Finalized d) ∷ p) = true
  ran_finalized (item ∷ p) = ran_finalized p

  -- the block that was applied last since the opening, as long as no hook was started behind it
  abbrev pub unhooked : Past B C I → Option (Named B)
  unhooked [] = None
  unhooked (Came (Restart floor keep) ∷ p) = None
  unhooked (Made (Opened anchor) ∷ p) = None
  unhooked (Made (Converged anchor) ∷ p) = None
  unhooked (Made (Applied b) ∷ p) = Some b
  unhooked (Made (Started j Hook d) ∷ p) = None
  unhooked (item ∷ p) = unhooked p

  -- what ends is a live job, of a kind that may end so, and but for a cancel it ends in its own
  -- turn
  abbrev pub EndsAsItsKind : Event B C I → Past B C I → Mark B → Type 0
  EndsAsItsKind event p (Ended j how) =
      (live_job j p ≡ true)
      × MatchOption (started_for j p) ⊥ (λ o. fits o.kind how ≡ true)
      × ((how ≡ Cancelled) ⊎ (event ≡ Turn j))
  EndsAsItsKind event p (Built j t b) =
      (live_job j p ≡ true)
      × MatchOption (started_for j p) ⊥ (λ o. o.kind ≡ Build)
      × (event ≡ Turn j)
  EndsAsItsKind event p mark = Unit {0}

  -- A build that ends without a block is followed at once by the decline of a request for a block
  -- on its parent, and one that has built by the answer with this block.
  abbrev pub BuildIsAnswered : Past B C I → Mark B → Option (Mark B) → Type 0
  BuildIsAnswered p (Ended j Nothing) next =
      (t : ℕ) × (r : Proposal B C I) × IsLiveProposal t p r
      × (started_for j p ≡ Some (job_of Build r.parent.digest)) × (next ≡ Some (Declined t))
  BuildIsAnswered p (Built j t b) next =
      (r : Proposal B C I) × IsLiveProposal t p r
      × (started_for j p ≡ Some (job_of Build r.parent.digest)) × MatchOption next ⊥ IsAnswer
    where
      IsAnswer : Mark B → Type 0
      IsAnswer (Answered u decision c) = (u ≡ t) × (c ≡ b)
      IsAnswer mark = ⊥
  BuildIsAnswered p mark next = Unit {0}

module _ {B C I S T : Type 0} (s : Setting B S T) where
  -- the job is a candidate run of a block on which the request stands, or a build for it
  abbrev pub IsWorkFor : Past B C I → ℕ → JobOf → Type 0
  IsWorkFor p t o =
      ((o.kind ≡ Candidate) × StandsOn s p t o.digest)
      ⊎ ((o.kind ≡ Build) × MatchOption (proposed t p) ⊥ (λ r. r.parent.digest ≡ o.digest))

  -- a job is cancelled where a request is cancelled that it is work for, or the machine stops or
  -- starts
  abbrev pub CancelledHasCause : Event B C I → List (Mark B) → Past B C I → Mark B → Type 0
  CancelledHasCause event marks p (Ended j Cancelled) =
      ((t : ℕ) × (event ≡ Cancel t) × MatchOption (started_for j p) ⊥ (IsWorkFor p t))
      ⊎ IsStopped event marks
  CancelledHasCause event marks p mark = Unit {0}

  -- a request ends by this item that stands on the block of this digest
  abbrev pub EndsOn : Past B C I → Digest → Item B C I → Type 0
  EndsOn p d item = MatchOption (ended_by item) ⊥ (λ t. StandsOn s p t d)

  -- a candidate run of this digest ended here, but not by a cancel, and its block isn't known
  -- behind it
  pub record IsSpent (d : Digest) (q : Past B C I) (j : ℕ) (how : How) : Type 0 where
    pub run : started_for j q ≡ Some (job_of Candidate d)
    pub ended : how ≢ Cancelled
    pub unknown : IsUnknown s (Made (Ended j how) ∷ q) d

  -- since each such end a request ended that stands on the block
  abbrev pub MayRunAgain : Past B C I → Digest → Type 0
  MayRunAgain p d = (later : List (Item B C I)) (q : Past B C I) (j : ℕ) (how : How)
      → p ≡ later ++ Made (Ended j how) ∷ q
      → IsSpent d q j how
      → Any (EndsOn p d) later

  -- A candidate run starts of a block that isn't known, on a known parent, for a live request that
  -- stands on it, where no candidate run of it is live; and once one has ended in vain, only for
  -- another request.
  pub record MayRun (p : Past B C I) (d : Digest) : Type 0 where
    pub block : Named B
    pub met : Met s p block
    pub is : block.digest ≡ d
    pub unknown : IsUnknown s p d
    pub parent : Known s p (parent_of s block)
    pub alone : (j : ℕ) → IsLiveJob j Candidate d p → ⊥
    pub ticket : ℕ
    pub wanted : IsLiveRequest ticket p
    pub stands : StandsOn s p ticket d
    pub again : MayRunAgain p d

  -- the block of this digest wasn't known where the finalization began, and no run of it was kept
  -- since
  abbrev pub HasToRun : Past B C I → Digest → Type 0
  HasToRun [] d = Unit {0}
  HasToRun (Made (Began t b) ∷ p) d = IsUnknown s p d
  HasToRun (item ∷ p) d = (kept_by p item ≢ Some d) × HasToRun p d

  -- what is started: a candidate that may run, the one run of the block whose finalization began
  -- and that has to run, the one live build, on a known parent for a live request, or the one hook
  -- behind the last applied block
  abbrev pub StartsWell : Past B C I → Mark B → Type 0
  StartsWell p (Started j Candidate d) = MayRun p d
  StartsWell p (Started j Finalized d) =
      MatchOption (begun p) ⊥ (λ b. b.digest ≡ d) × (ran_finalized p ≡ false) × HasToRun p d
  StartsWell p (Started j Build d) =
      Known s p d
      × ((k : ℕ) (e : Digest) → IsLiveJob k Build e p → ⊥)
      × ((t : ℕ) × (r : Proposal B C I) × IsLiveProposal t p r × (r.parent.digest ≡ d))
  StartsWell p (Started j Hook d) = MatchOption (unhooked p) ⊥ (λ b. b.digest ≡ d)
  StartsWell p mark = Unit {0}

  -- at the end of an entry each candidate run has a live request that stands on its block, and each
  -- build has one for a block on its parent
  pub record RunsAreWanted (p : Past B C I) : Type 0 where
    pub candidates : (j : ℕ) (d : Digest)
        → IsLiveJob j Candidate d p
        → (t : ℕ) × IsLiveRequest t p × StandsOn s p t d
    pub builds : (j : ℕ) (d : Digest)
        → IsLiveJob j Build d p
        → (t : ℕ) × (r : Proposal B C I) × IsLiveProposal t p r × (r.parent.digest ≡ d)
