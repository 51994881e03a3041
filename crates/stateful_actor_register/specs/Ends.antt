-- The marks by which all live work ends.
use Rattle.std.specs.Prelude.{◌≡◌, ◌++◌, ℕ, false, not, ◌&&◌, is_some, List, ◌∷◌, map, Contains}
use Rattle.stateful_history.specs.Past.{Past, Made, after}
use Rattle.stateful_history.specs.Live.{live_ticket, live_job, live_fetch}
use Rattle.stateful_history.specs.Barriers.{live_barrier}
use Rattle.stateful_history.specs.Requests.{Proposal, IsLiveProposal}
use Rattle.stateful_history.specs.Stops.{NothingLive}
use Rattle.stateful_history.specs.declared.mark.Mark.{Mark}
use Rattle.stateful_history.specs.declared.mark.Mark.TheVariants.{Withdrawn, Ended, Declined}
use Rattle.stateful_history.specs.declared.mark.Mark.TheVariants.{Dropped, Stopped}
use Rattle.stateful_history.specs.declared.mark.How.TheVariants.{Cancelled}
use Rattle.stateful_actor_register.specs.Live.{IsListOf}
use Rattle.stateful_actor_register.specs.Proposals.{live_proposal, TicketsCameNew}

-- the marks by which live work of each kind ends
module _ {B : Type 0} where
  abbrev pub withdrawn : List ℕ → List (Mark B)
  withdrawn fetches = map (λ f. Withdrawn f) fetches

  abbrev pub cancelled : List ℕ → List (Mark B)
  cancelled jobs = map (λ j. Ended j Cancelled) jobs

  abbrev pub declined : List ℕ → List (Mark B)
  declined tickets = map (λ t. Declined t) tickets

  abbrev pub dropped : List ℕ → List (Mark B)
  dropped tickets = map (λ t. Dropped t) tickets

module _ {B C I : Type 0} (p : Past B C I) (marks : List (Mark B)) where
  -- Each live fetch is withdrawn, then each live job cancelled, each live request to build declined
  -- and each other live ticket dropped, and nothing else. Those of one kind go by ascending
  -- numbers.
  pub record EndsAll : Type 0 where
    pub fetches : List ℕ
    pub jobs : List ℕ
    pub proposals : List ℕ
    pub others : List ℕ
    pub all_fetches : IsListOf (λ f. live_fetch f p) fetches
    pub all_jobs : IsListOf (λ j. live_job j p) jobs
    pub all_proposals : IsListOf (λ t. live_proposal t p) proposals
    pub all_others : IsListOf (λ t. is_some (live_ticket t p) && not (live_proposal t p)) others
    pub are : marks ≡ withdrawn fetches ++ cancelled jobs ++ declined proposals ++ dropped others
    -- each request that is declined asks to build, and where tickets came new none does that is
    -- dropped
    pub each_builds : (t : ℕ) → Contains proposals t → (r : Proposal B C I) × IsLiveProposal t p r
    pub no_other_builds : TicketsCameNew p
        → (t : ℕ)
        → Contains others t
        → (r : Proposal B C I)
        → IsLiveProposal t p r
        → ⊥

  -- Nothing is live behind the marks and a stop, and without a stop behind the marks alone, where
  -- no barrier was live before them.
  pub record LeavesNothing : Type 0 where
    pub stopped : NothingLive (Made Stopped ∷ after p marks)
    pub without_barriers : ((k : ℕ) → live_barrier k p ≡ false) → NothingLive (after p marks)
