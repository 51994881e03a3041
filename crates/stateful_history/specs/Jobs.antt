-- Jobs: what they were started for, how often they were turned, and which of them are outstanding.
use Rattle.std.specs.Prelude.{◌≡◌, ℕ, ◌+◌, ◌<◌, ◌==◌, ◌⊎◌, true, if◌then◌else◌, Option, Some, None}
use Rattle.std.specs.Prelude.{[], ◌∷◌}
use Rattle.stateful_base.specs.Names.{Named}
use Rattle.stateful_base.specs.declared.digest.Digest.{Digest}
use Rattle.stateful_base.specs.declared.outcome.Finality.{Finality}
use Rattle.stateful_base.specs.declared.outcome.Finality.TheVariants as finality
use Rattle.stateful_history.specs.Setting.{Setting, parent_of}
use Rattle.stateful_history.specs.Telling.{Telling}
use Rattle.stateful_history.specs.Past.{Past, Came, Made}
use Rattle.stateful_history.specs.Met.{Met}
use Rattle.stateful_history.specs.States.{HasState}
use Rattle.stateful_history.specs.Live.{live_job}
use Rattle.stateful_history.specs.Requests.{Proposal, IsLiveProposal, asked_by}
use Rattle.stateful_history.specs.declared.event.Event.TheVariants.{Turn}
use Rattle.stateful_history.specs.declared.mark.JobKind.{JobKind}
use Rattle.stateful_history.specs.declared.mark.JobKind.TheVariants.{Candidate, Finalized, Build}
use Rattle.stateful_history.specs.declared.mark.JobKind.TheVariants.{Hook}
use Rattle.stateful_history.specs.declared.mark.Mark.TheVariants.{Started}

-- what a job was started for: a build for the parent of this digest, another job for the block of
-- this digest
pub record JobOf : Type 0 where
  pub kind : JobKind
  pub digest : Digest

abbrev pub job_of : JobKind → Digest → JobOf
job_of kind digest = record { kind = kind; digest = digest }

module _ {B C I : Type 0} where
  abbrev pub started_for : ℕ → Past B C I → Option JobOf
  started_for j [] = None
  started_for j (Made (Started k kind digest) ∷ p) =
      if j == k then Some (job_of kind digest) else started_for j p
  started_for j (item ∷ p) = started_for j p

  -- how often the job was turned
  abbrev pub turns : ℕ → Past B C I → ℕ
  turns j [] = 0
  turns j (Came (Turn k) ∷ p) = if j == k then turns j p + 1 else turns j p
  turns j (item ∷ p) = turns j p

  -- a live job of this kind, for this digest
  pub record IsLiveJob (j : ℕ) (kind : JobKind) (d : Digest) (p : Past B C I) : Type 0 where
    pub live : live_job j p ≡ true
    pub is : started_for j p ≡ Some (job_of kind d)

module _ {B C I S T : Type 0} (s : Setting B S T) (a : Telling B C I S) (base : S)
    (p : Past B C I) where
  -- a live run of this block, turned less often than it takes turns on its parent's states, where
  -- that is told; without such states none is outstanding
  pub record IsOutstandingRun (j : ℕ) (kind : JobKind) (finality : Finality)
      (b : Named B) : Type 0 where
    pub met : Met s p b
    pub job : IsLiveJob j kind b.digest p
    pub state : S
    pub has_state : HasState s base p (parent_of s b) state
    pub unfinished : (n : ℕ) → a.run_cost finality state b.block ≡ Some n → turns j p < n

  abbrev pub IsOutstandingCandidate : ℕ → Named B → Type 0
  IsOutstandingCandidate j b = IsOutstandingRun j Candidate finality.Candidate b

  abbrev pub IsOutstandingFinalized : ℕ → Named B → Type 0
  IsOutstandingFinalized j b = IsOutstandingRun j Finalized finality.Finalized b

  -- a live build for a live request, turned less often than it takes turns on the parent's states,
  -- where that is told
  pub record IsOutstandingBuild (j k : ℕ) (r : Proposal B C I) : Type 0 where
    pub proposal : IsLiveProposal k p r
    pub job : IsLiveJob j Build r.parent.digest p
    pub state : S
    pub has_state : HasState s base p r.parent.digest state
    pub unfinished : (n : ℕ) → a.build_cost (asked_by r) state ≡ Some n → turns j p < n

  -- a live hook behind this block, turned less often than it takes turns on the states after the
  -- block, where that is told
  pub record IsOutstandingHook (j : ℕ) (b : Named B) : Type 0 where
    pub met : Met s p b
    pub job : IsLiveJob j Hook b.digest p
    pub state : S
    pub has_state : HasState s base p b.digest state
    pub unfinished : (n : ℕ) → a.hook_cost b.block state ≡ Some n → turns j p < n

  abbrev pub HasOutstandingRun : Type 0
  HasOutstandingRun =
      (j : ℕ) × (b : Named B) × (IsOutstandingCandidate j b ⊎ IsOutstandingFinalized j b)

  abbrev pub HasOutstandingHook : Type 0
  HasOutstandingHook = (j : ℕ) × (b : Named B) × IsOutstandingHook j b

  abbrev pub HasOutstandingBuild : Type 0
  HasOutstandingBuild = (j k : ℕ) × (r : Proposal B C I) × IsOutstandingBuild j k r
