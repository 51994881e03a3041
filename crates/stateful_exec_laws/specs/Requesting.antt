-- Requests stand for a past, each in its phase.
use Rattle.std.specs.Prelude.{◌≡◌, ◌≢◌, ◌++◌, ℕ, true, Option, Some, IsSome, List, [], ◌∷◌, All}
use Rattle.std.specs.Prelude.{MatchOption}
use Rattle.std.specs.List.Sorted.{IsStrictlySortedBy}
use Rattle.std.specs.Map.{keys_of}
use Rattle.std.specs.Ordering.{nat_cmp}
use Rattle.stateful_base.specs.Names.{Header, Named}
use Rattle.stateful_history.specs.Past.{Past}
use Rattle.stateful_history.specs.Met.{Met}
use Rattle.stateful_history.specs.Live.{live_fetch}
use Rattle.stateful_history.specs.Asked.{asked_for}
use Rattle.stateful_history.specs.Requests.{IsLiveVerification, IsLiveProposal}
use Rattle.stateful_history.specs.Fetches.{Abstains}
use Rattle.stateful_table.specs.Table.{at}
use Rattle.stateful_exec_tables.specs.Fetching.{IsVerification}
use Rattle.stateful_exec_walk.specs.Path.{Path, Descends}
use Rattle.stateful_exec_tables.specs.Phase.{tickets_on}
use Rattle.stateful_exec_walk.specs.Request.{ticket_by}
use Rattle.stateful_exec_tables.specs.Meeting.{first_or}
use Rattle.stateful_exec_walk.specs.declared.request.Proposal.{Proposal}
use Rattle.stateful_exec_model.specs.Workings.{Workings}
use Rattle.stateful_exec_walk.specs.declared.request.Request.{Request}
use Rattle.stateful_exec_walk.specs.declared.request.Request.TheVariants.{Verify, Recover}
use Rattle.stateful_exec_tables.specs.declared.tables.LiveRun.{LiveRun}
use Rattle.stateful_exec_tables.specs.declared.tables.Phase.{Phase}
use Rattle.stateful_exec_tables.specs.declared.tables.Phase.TheVariants.{Open, Fetching, Waiting}
use Rattle.stateful_exec_tables.specs.declared.tables.Phase.TheVariants.{Executing, Parked}
use Rattle.stateful_exec_tables.specs.declared.tables.Requested.{Requested}
use Rattle.stateful_exec_laws.specs.Setting.{setting}

-- the first block of what is asked: the one to judge, or the one to build on
abbrev pub first_of : {B C I : Type 0} → Request B C I → Named B
first_of (Verify t ancestry) = ancestry.first
first_of (Recover t context ancestry input kind) = ancestry.first

-- the blocks that a request came with
abbrev pub brought_by : {B C I : Type 0} → Request B C I → List (Named B)
brought_by (Verify t ancestry) = ancestry.first ∷ ancestry.rest
brought_by (Recover t context ancestry input kind) = ancestry.first ∷ ancestry.rest

-- the blocks of a path with the parent of the last one, the newest first
abbrev pub steps : {B : Type 0} → Path B → List (Named B)
steps path = path.blocks ++ path.parent ∷ []

-- each block is the child of the next one, and each but the first is one above it too
abbrev pub LeadsDown : {B : Type 0} → Header B → List (Named B) → Type 0
LeadsDown header [] = Unit {0}
LeadsDown header (b ∷ []) = Unit {0}
LeadsDown header (b ∷ parent ∷ bs) =
    (parent.digest ≡ header.parent b.block) × Descends header (parent ∷ bs)

module _ {B C I P R D H G U : Type 0} (w : Workings B C I P R D H G U)
    (stored : ℕ → Option (Named B)) (p : Past B C I) where
  -- the request is what the event of its ticket asked for, and it is live
  abbrev pub IsRequestOf : ℕ → Request B C I → Type 0
  IsRequestOf t (Verify u ancestry) = IsLiveVerification t p ancestry.first
  IsRequestOf t (Recover u context ancestry input kind) =
      IsLiveProposal t p
      (record { kind = kind; context = context; parent = ancestry.first; input = input })

  -- the blocks of the path are those of the history that lead from the first block of the request
  -- down to one
  pub record IsWayOf (request : Request B C I) (path : Path B) : Type 0 where
    pub met : All (Met (setting w stored) p) (steps path)
    pub leads : LeadsDown w.header (steps path)
    pub begins : first_or path.parent path.blocks ≡ first_of request

  module _ (runs : List (ℕ × LiveRun B R)) where
    -- what holds in each phase: its fetch is live and its own; it is a verification; the live run
    -- is of the next block of its path
    abbrev pub IsInPhase : ℕ → Request B C I → Phase B → Type 0
    IsInPhase t request Open = Unit {0}
    IsInPhase t request (Fetching f) = (live_fetch f p ≡ true) × (asked_for f p ≡ Some (Some t))
    IsInPhase t request Waiting = IsVerification request
    IsInPhase t request (Executing j path) =
        MatchOption (at runs j) ⊥ (λ run. run.block ≡ path.parent) × IsWayOf request path
    IsInPhase t request (Parked path) = IsWayOf request path

    -- the request of this ticket stands for the past, with the blocks that it came with and those
    -- that were acquired for it
    pub record IsStanding (t : ℕ) (r : Requested B C I) : Type 0 where
      pub own : ticket_by r.request ≡ t
      pub asked : IsRequestOf t r.request
      pub brought : All (Met (setting w stored) p) (brought_by r.request)
      pub met : All (Met (setting w stored) p) r.acquired
      pub phase : IsInPhase t r.request r.phase

    -- Each request stands so, by ascending tickets; each live fetch for a ticket is one of theirs;
    -- and each live run has a request that waits for it.
    pub record RequestsStand (requests : List (ℕ × Requested B C I)) : Type 0 where
      pub ascending : IsStrictlySortedBy nat_cmp (keys_of requests)
      pub each : All (λ e. IsStanding e.0 e.1) requests
      pub fetches : (f t : ℕ)
          → live_fetch f p ≡ true
          → asked_for f p ≡ Some (Some t)
          → MatchOption (at requests t) ⊥ (λ r. r.phase ≡ Fetching f)
      pub wanted : (j : ℕ) → IsSome (at runs j) → tickets_on j requests ≢ []

  -- each request that waits abstains
  abbrev pub AllAbstain : List (ℕ × Requested B C I) → Type 0
  AllAbstain requests =
      All
      (λ e. e.1.phase ≡ Waiting → Abstains (setting w stored) e.0 p (first_of e.1.request)) requests

  -- each queued build is of a live proposal
  pub record QueueStands (queued : List (ℕ × Proposal B C I)) (recovered : List ℕ) : Type 0 where
    pub each : All
        (λ e. IsLiveProposal e.0 p
        (record {
          kind =
              e.1.kind;
          context =
              e.1.context;
          parent = e.1.ancestry.first;
          input = e.1.input;
        }))
        queued
    pub ready : All (λ t. IsSome (at queued t)) recovered
