-- What holds of all live jobs at the end of an entry.
use Rattle.std.specs.Prelude.{◌≡◌, ℕ, Option}
use Rattle.stateful_base.specs.Names.{Named}
use Rattle.stateful_base.specs.declared.digest.Digest.{Digest}
use Rattle.stateful_history.specs.Jobs.{IsLiveJob, IsOutstandingCandidate, IsOutstandingFinalized}
use Rattle.stateful_history.specs.Jobs.{IsOutstandingBuild, IsOutstandingHook}
use Rattle.stateful_history.specs.Past.{Past}
use Rattle.stateful_history.specs.Requests.{Proposal}
use Rattle.stateful_history.specs.Telling.{telling_of}
use Rattle.stateful_history.specs.declared.mark.JobKind.TheVariants.{Candidate, Finalized, Build}
use Rattle.stateful_history.specs.declared.mark.JobKind.TheVariants.{Hook}
use Rattle.stateful_exec_model.specs.Workings.{Workings}
use Rattle.stateful_exec_laws.specs.Setting.{setting}

module _ {B C I P R D H G U : Type 0} (w : Workings B C I P R D H G U)
    (stored : ℕ → Option (Named B)) (base : w.States) (p : Past B C I) where
  -- Each live job is outstanding: it was turned less often than it takes turns, where that is told.
  -- So a run, build or hook that was turned as often has ended.
  pub record EachJobGoesOn : Type 0 where
    pub candidates : (j : ℕ) (d : Digest) → IsLiveJob j Candidate d p
        → (b : Named B)
        × (b.digest ≡ d)
        × IsOutstandingCandidate (setting w stored) (telling_of w.works) base p j b
    pub finals : (j : ℕ) (d : Digest) → IsLiveJob j Finalized d p
        → (b : Named B)
        × (b.digest ≡ d)
        × IsOutstandingFinalized (setting w stored) (telling_of w.works) base p j b
    pub builds : (j : ℕ) (d : Digest) → IsLiveJob j Build d p
        → (t : ℕ)
        × (r : Proposal B C I)
        × (r.parent.digest ≡ d)
        × IsOutstandingBuild (setting w stored) (telling_of w.works) base p j t r
    pub hooks : (j : ℕ) (d : Digest) → IsLiveJob j Hook d p
        → (b : Named B)
        × (b.digest ≡ d)
        × IsOutstandingHook (setting w stored) (telling_of w.works) base p j b
