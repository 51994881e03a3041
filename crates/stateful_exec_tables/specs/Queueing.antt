-- Builds that aren't started yet.
use Rattle.std.specs.Prelude.{◌≡◌, ◌+◌, ℕ, Option, Some, None}
use Rattle.stateful_table.specs.Table.{at, without}
use Rattle.stateful_exec_tables.specs.Tables.{IsLeft, Knows}
use Rattle.stateful_exec_tables.specs.declared.queued.Queued.{Queued}
use Rattle.stateful_exec_walk.specs.declared.request.Proposal.{Proposal}
use Rattle.stateful_exec_tables.specs.declared.state.Tables.{Tables}

module _ {B C I R U : Type 0} (v : Tables B C I R U) where
  -- the proposal of a ticket isn't queued any more
  abbrev pub unqueued : ℕ → Tables B C I R U
  unqueued t = record v { queued = without v.queued t }

  -- this proposal of a ticket is queued, and the block that it is to be built on is known
  pub record IsReady (t : ℕ) (p : Proposal B C I) : Type 0 where
    pub queued : at v.queued t ≡ Some p
    pub known : Knows v p.ancestry.first.digest

  -- A proposal is taken out of the queue: with the next number of a job where it is ready, and else
  -- to be declined.
  pub data Unqueues (t : ℕ) (new : Tables B C I R U) : Option (Queued B C I) → Type 0 where
    ready : {q : Queued B C I}
        → IsReady t q.proposal
        → q.parent ≡ q.proposal.ancestry.first
        → q.job ≡ v.next_job
        → IsLeft v.next_job
        → new ≡ record v { queued = without v.queued t; next_job = v.next_job + 1 }
        → Unqueues t new (Some q)
    declined : ((p : Proposal B C I) → IsReady t p → ⊥) → new ≡ unqueued t → Unqueues t new None
