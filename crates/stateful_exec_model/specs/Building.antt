-- The start of a build.
use Rattle.std.specs.Prelude.{◌≡◌, ◌+◌, ℕ, Option, Some, None, List}
use Rattle.stateful_db.specs.Works.{Asked, asked_for, build_of}
use Rattle.stateful_table.specs.Table.{at, without}
use Rattle.stateful_exec_model.specs.Workings.{Workings, Point}
use Rattle.stateful_exec_tables.specs.Tables.{IsLeft}
use Rattle.stateful_exec_model.specs.Starting.{IsOver}
use Rattle.stateful_exec_model.specs.Causes.{FaultsStart}
use Rattle.stateful_exec_model.specs.declared.building.Building.{Building}
use Rattle.stateful_exec_model.specs.declared.building.BuildStart.{BuildStart}
use Rattle.stateful_exec_model.specs.declared.building.BuildStart.TheVariants.{Started, Declined}
use Rattle.stateful_exec_tables.specs.declared.error.ExecError.{ExecError}
use Rattle.stateful_exec_tables.specs.declared.error.ExecError.TheVariants.{OutOfMemory}
use Rattle.stateful_exec_walk.specs.declared.request.Proposal.{Proposal}
use Rattle.stateful_exec_tables.specs.declared.state.Tables.{Tables}
use Rattle.stateful_exec_tables.specs.Queueing.{unqueued, IsReady}

-- what a proposal asks for
abbrev pub asked_by : {B C I : Type 0} → Proposal B C I → Asked B C I
asked_by p = asked_for p.kind p.context p.ancestry p.input

module _ {B C I P R D H G U : Type 0} (w : Workings B C I P R D H G U) where
  -- the build is of this proposal, on batches of these ids over a chain of points, and hasn't had a
  -- turn
  abbrev pub IsNewBuild : D → Proposal B C I → P → w.Ids → Point w → List (Point w) → Type 0
  IsNewBuild build p provider own at below =
      w.works.building build (build_of (asked_by p) provider own at below) 0

  -- A build of a queued proposal is live, over the states of its parent, under the next number of a
  -- job. That number and the batches' ids weren't the last ones, and every database was here.
  pub record StartsBuild (t : ℕ) (provider : P) (m : w.kind.Members) (next now : w.Ids)
      (old new : Tables B C I R U) (build : Option (Building B C D)) : Type 0 where
    pub proposal : Proposal B C I
    pub ready : IsReady old t proposal
    pub job_left : IsLeft old.next_job
    pub ids_left : w.kind.Spent next → ⊥
    pub here : w.kind.point m ≡ None → ⊥
    pub live : D
    pub build_is : build ≡ Some (record {
      job = old.next_job;
      ticket = t;
      kind = proposal.kind;
      context = proposal.context;
      parent = proposal.ancestry.first;
      build = live;
    })
    pub state : new ≡ record old { queued = without old.queued t; next_job = old.next_job + 1 }
    pub over : IsOver w old.anchor.digest old.cache m next now
        (λ q c. IsNewBuild live proposal provider next q c) proposal.ancestry.first.digest
    pub keeps : (c : List (Point w)) → w.kind.issued next c → w.kind.issued now c

  -- What becomes of a ticket's proposal: where it is queued and its parent is known a build of it
  -- is started; else it is declined, and nothing else changes.
  pub data Proposes (t : ℕ) (provider : P) (m : w.kind.Members) (next now : w.Ids)
      (old new : Tables B C I R U) (before after : Option (Building B C D)) : BuildStart
      → Type 0 where
    starts : {job : ℕ}
        → job ≡ old.next_job
        → StartsBuild t provider m next now old new after
        → Proposes t provider m next now old new before after (Started job)
    declines : ((p : Proposal B C I) → IsReady old t p → ⊥)
        → new ≡ unqueued old t
        → after ≡ before
        → now ≡ next
        → Proposes t provider m next now old new before after Declined

  -- memory ran out, or no build was started of a proposal whose parent is known
  pub data FaultsPropose (rose : Type 0) (t : ℕ) (m : w.kind.Members) (next : w.Ids)
      (old : Tables B C I R U) (e : ExecError) : Type 0 where
    memory : e ≡ OutOfMemory → FaultsPropose rose t m next old e
    starting : {p : Proposal B C I}
        → IsReady old t p
        → FaultsStart w rose old.next_job m next e
        → FaultsPropose rose t m next old e
