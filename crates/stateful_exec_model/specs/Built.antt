-- Turns of a build, and what becomes of the block that it gives.
use Rattle.std.specs.Prelude.{◌≡◌, ◌≢◌, ◌+◌, ◌<◌, ◌^◌, ◌∷◌, [], ℕ, Option, Some, None, Result, Ok}
use Rattle.std.specs.Prelude.{Err, List, IfOk, IsErrOf}
use Rattle.stateful_base.specs.Causes.{Rose}
use Rattle.stateful_base.specs.Names.{Named}
use Rattle.sha2.specs.Sha256.{sha256}
use Rattle.stateful_base.specs.declared.anchor.Anchor.{Anchor}
use Rattle.stateful_base.specs.declared.outcome.Handoff.{Handoff}
use Rattle.stateful_base.specs.declared.outcome.Handoff.TheVariants.{Wait, Vote, Stage}
use Rattle.stateful_base.specs.declared.outcome.Moved.{Moved}
use Rattle.stateful_base.specs.declared.outcome.Moved.TheVariants.{Pending, Done}
use Rattle.stateful_db.specs.Chain.{IsPoint}
use Rattle.stateful_db.specs.Works.{BuildOf, BuildEnds, Costs}
use Rattle.stateful_db.specs.declared.application.AppFault.{AppFault}
use Rattle.stateful_db.specs.declared.application.AppFault.TheVariants.{Failed}
use Rattle.stateful_db.specs.declared.application.ProposalKind.{ProposalKind}
use Rattle.stateful_db.specs.declared.application.ProposalKind.TheVariants.{Prepare, Propose}
use Rattle.stateful_db.specs.declared.application.ProposedBlock.{ProposedBlock}
use Rattle.stateful_history.specs.declared.mark.Decision.{Decision}
use Rattle.stateful_history.specs.declared.mark.Decision.TheVariants as decision
use Rattle.stateful_history.specs.declared.mark.How.TheVariants.{Kept, Nothing, Cancelled}
use Rattle.stateful_history.specs.declared.mark.Mark.{Mark}
use Rattle.stateful_history.specs.declared.mark.Mark.TheVariants as mark
use Rattle.stateful_exec_cache.specs.declared.cache.Cached.{Cached}
use Rattle.stateful_exec_tables.specs.Errors.{error_of_app}
use Rattle.stateful_exec_model.specs.Workings.{Workings, Point}
use Rattle.stateful_exec_model.specs.Moments.{Moment, Becomes}
use Rattle.stateful_exec_tables.specs.Keeping.{Takes}
use Rattle.stateful_exec_tables.specs.Cancelling.{Cancels}
use Rattle.stateful_exec_tables.specs.declared.state.Tables.{Tables}
use Rattle.stateful_exec_model.specs.declared.building.Building.{Building}
use Rattle.stateful_exec_tables.specs.declared.error.ExecError.{ExecError}
use Rattle.stateful_exec_tables.specs.declared.error.ExecError.TheVariants.{OutOfMemory, ProposalMismatch}
use Rattle.stateful_exec_tables.specs.declared.error.ProposalFault.{ProposalFault}
use Rattle.stateful_exec_tables.specs.declared.error.ProposalFault.TheVariants.{Targets, Parent, Round}
use Rattle.stateful_exec_tables.specs.Keeping.{FaultsKeep}

-- how a block is answered: as it was handed over, where it was to be prepared
abbrev pub decided : ProposalKind → Decision → Decision
decided Prepare handed = handed
decided Propose handed = decision.Block

module _ {B C I P R D H G U : Type 0} (w : Workings B C I P R D H G U) where
  -- the batch leads to what the block commits to
  abbrev pub Commits : ProposedBlock B U → Type 0
  Commits p =
      (q : Point w) (c : List (Point w))
      → w.shows p.merkleized (q ∷ c)
      → w.kind.target_of q.1 ≡ w.works.meaning.targets p.block

  -- the batch leads to another target at the database of this number, and to those of the block at
  -- the ones before it
  abbrev pub CommitsElse : ProposedBlock B U → ProposalFault → Type 0
  CommitsElse p (Targets index expected given) =
      (q : Point w) (c : List (Point w)) → w.kind.count < 2 ^ 64 → w.shows p.merkleized (q ∷ c)
      → (w.kind.Agrees (w.kind.target_of q.1) (w.works.meaning.targets p.block) index → ⊥)
      ×
      ((i : ℕ)
      → i < index
      → w.kind.Agrees (w.kind.target_of q.1) (w.works.meaning.targets p.block) i)
      × (expected ≡ w.kind.target_at (w.works.meaning.targets p.block) index)
      × (given ≡ w.kind.target_at (w.kind.target_of q.1) index)
  CommitsElse p fault = ⊥

  module _ (b : Building B C D) where
    -- the block is on the parent of the build, and of the round of its context
    abbrev pub IsOnParent : ProposedBlock B U → Type 0
    IsOnParent p = w.header.parent p.block ≡ b.parent.digest

    abbrev pub IsInRound : ProposedBlock B U → Type 0
    IsInRound p = w.header.round p.block ≡ w.round_of b.context

    -- a block is what was asked for
    pub record IsAskedFor (p : ProposedBlock B U) : Type 0 where
      pub targets : Commits p
      pub parent : IsOnParent p
      pub round : IsInRound p

    -- how a block differs from what was asked for: in its targets, else in its parent, else in its
    -- round
    abbrev pub IsOther : ProposedBlock B U → ProposalFault → Type 0
    IsOther p (Targets index expected given) = CommitsElse p (Targets index expected given)
    IsOther p (Parent expected given) =
        Commits p
        × (expected ≡ b.parent.digest)
        × (given ≡ w.header.parent p.block)
        × (given ≢ expected)
    IsOther p (Round expected given) =
        Commits p
        × IsOnParent p
        × (expected ≡ w.round_of b.context)
        × (given ≡ w.header.round p.block)
        × (given ≢ expected)

    -- the block has this digest
    pub record IsNamed (p : ProposedBlock B U) (block : Named B) : Type 0 where
      pub same : block.block ≡ p.block
      pub digest : block.digest.0 ≡ sha256 (w.header.bytes p.block)

    -- the block that was built is what was asked for, and the cache takes it
    pub record IsBuilt (anchor : Anchor) (p : ProposedBlock B U) (block : Named B)
        (old new : List (Cached U)) : Type 0 where
      pub asked_for : IsAskedFor p
      pub named : IsNamed p block
      pub takes : Takes w.header anchor block p.merkleized old new Kept

    -- why a block that was built isn't taken: memory ran out; or it isn't what was asked for; or
    -- the cache doesn't keep it
    pub data FaultsBuilt (anchor : Anchor) (p : ProposedBlock B U) (cache : List (Cached U))
        (e : ExecError) : Type 0 where
      memory : e ≡ OutOfMemory → FaultsBuilt anchor p cache e
      other : {fault : ProposalFault}
          → e ≡ ProposalMismatch fault
          → IsOther p fault
          → FaultsBuilt anchor p cache e
      not_kept : {block : Named B}
          → IsAskedFor p
          → IsNamed p block
          → FaultsKeep w.header anchor block p.merkleized cache e
          → FaultsBuilt anchor p cache e

    -- a block that was handed over so is cached, and the proposal is answered with it
    pub record Gives (m : Moment w) (p : ProposedBlock B U) (handed : Decision)
        (now : Moment w) : Type 0 where
      pub block : Named B
      pub cache : List (Cached U)
      pub built : IsBuilt m.state.anchor p block m.state.cache cache
      pub becomes : Becomes w m (record m.state { cache = cache })
          (mark.Built b.job b.ticket block ∷ mark.Answered b.ticket (decided b.kind handed) block
          ∷ [])
          now

    -- what the end of the build leads to: without a block its proposal is declined
    abbrev pub EndsBuild : Moment w → Handoff (ProposedBlock B U) → Moment w → Type 0
    EndsBuild m Wait now =
        Becomes w m m.state (mark.Ended b.job Nothing ∷ mark.Declined b.ticket ∷ []) now
    EndsBuild m (Vote p) now = Gives m p decision.Vote now
    EndsBuild m (Stage p) now = Gives m p decision.Stage now

    abbrev pub FaultsGiven : Anchor
        → Handoff (ProposedBlock B U)
        → List (Cached U)
        → ExecError
        → Type 0
    FaultsGiven anchor Wait cache e = e ≡ OutOfMemory
    FaultsGiven anchor (Vote p) cache e = FaultsBuilt anchor p cache e
    FaultsGiven anchor (Stage p) cache e = FaultsBuilt anchor p cache e

  -- A turn of a build: where the databases are at a point of its chain, it goes on, or ends with
  -- what may be given for its request, in as many turns as it costs, where that is told. It failed
  -- only where its count rose.
  pub record HasTurn (count : D → ℕ) (m : w.kind.Members) (build turned : D)
      (answer : Result (Moved (Handoff (ProposedBlock B U))) AppFault) : Type 0 where
    pub ends : IfOk answer
        (λ moved. (b : BuildOf B C I P w.Ids w.States) (n : ℕ) (q : Point w)
        → w.works.building build b n
        → w.kind.point m ≡ Some q
        → IsPoint q (b.at ∷ b.below)
        → BuildEnds w.works moved w.shows b (w.works.building turned b (n + 1)))
    pub costs : IfOk answer
        (λ moved. (b : BuildOf B C I P w.Ids w.States) (n : ℕ) (q : Point w)
        → w.works.building build b n
        → w.kind.point m ≡ Some q
        → IsPoint q (b.at ∷ b.below)
        → Costs (w.works.build_cost b.asked b.at.1) moved n)
    pub failed : IsErrOf answer Failed → Rose (count build) (count turned)

  -- the build of this job is live
  pub record IsLiveBuild (build : Option (Building B C D)) (j : ℕ)
      (b : Building B C D) : Type 0 where
    pub live : build ≡ Some b
    pub job : b.job ≡ j

  module _ (count : D → ℕ) (m : Moment w) (build : Option (Building B C D)) (j : ℕ) where
    -- What a turn of the build of a job leads to: it goes on, or has ended. Where no build of this
    -- job is live nothing changes.
    pub data TurnsBuild (now : Moment w) (after : Option (Building B C D)) : Type 0 where
      other : ((b : Building B C D) → IsLiveBuild build j b → ⊥)
          → now ≡ m
          → after ≡ build
          → TurnsBuild now after
      goes_on : {b : Building B C D} {turned : D}
          → IsLiveBuild build j b
          → HasTurn count m.members b.build turned (Ok Pending)
          → now ≡ m → after ≡ Some (record b { build = turned }) → TurnsBuild now after
      ends : {b : Building B C D} {turned : D} {given : Handoff (ProposedBlock B U)}
          → IsLiveBuild build j b
          → HasTurn count m.members b.build turned (Ok (Done given))
          → EndsBuild (record b { build = turned }) m given now
          → after ≡ None
          → TurnsBuild now after

    -- a turn failed, or what its answer leads to
    pub data FaultsTurn (e : ExecError) : Type 0 where
      failed : {b : Building B C D} {turned : D} {fault : AppFault}
          → IsLiveBuild build j b
          → HasTurn count m.members b.build turned (Err fault)
          → e ≡ error_of_app fault → FaultsTurn e
      ending : {b : Building B C D} {turned : D} {given : Handoff (ProposedBlock B U)}
          → IsLiveBuild build j b
          → HasTurn count m.members b.build turned (Ok (Done given))
          → FaultsGiven (record b { build = turned }) m.state.anchor given m.state.cache e
          → FaultsTurn e

-- the live build is for the request of this ticket
pub record IsBuildFor {B C D : Type 0} (build : Option (Building B C D)) (t : ℕ)
    (b : Building B C D) : Type 0 where
  pub live : build ≡ Some b
  pub ticket : b.ticket ≡ t

-- What a cancel leaves, and its marks: the live build ends where it is for the request, and else
-- the request is given up, or its build isn't queued any more.
pub data GivesUp {B C I R U D : Type 0} (old new : Tables B C I R U)
    (before after : Option (Building B C D)) (t : ℕ) (marks : List (Mark B)) : Type 0 where
  building : {b : Building B C D}
      → IsBuildFor before t b
      → new ≡ old
      → after ≡ None
      → marks ≡ mark.Ended b.job Cancelled ∷ []
      → GivesUp old new before after t marks
  asking : ((b : Building B C D) → IsBuildFor before t b → ⊥)
      → Cancels old new t marks
      → after ≡ before
      → GivesUp old new before after t marks
