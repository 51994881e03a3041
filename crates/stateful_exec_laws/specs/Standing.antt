-- What the tables of execution stand for.
use Rattle.std.specs.Prelude.{◌≡◌, ◌≢◌, ◌<◌, ◌≤◌, ◌++◌, ℕ, List, Option, None, IsSome, All}
use Rattle.stateful_base.specs.Names.{Named}
use Rattle.stateful_base.specs.declared.digest.Digest.{Digest}
use Rattle.stateful_history.specs.Past.{Past, after}
use Rattle.stateful_history.specs.Met.{Met}
use Rattle.stateful_history.specs.declared.mark.Mark.{Mark}
use Rattle.stateful_history.specs.Asked.{asked_for}
use Rattle.stateful_history.specs.Jobs.{started_for, turns}
use Rattle.stateful_table.specs.Table.{at}
use Rattle.stateful_exec_model.specs.Workings.{Workings, Point}
use Rattle.stateful_exec_model.specs.Moments.{Moment}
use Rattle.stateful_exec_walk.specs.Request.{ticket_by}
use Rattle.stateful_exec_walk.specs.declared.request.Request.{Request}
use Rattle.stateful_exec_tables.specs.declared.state.Tables.{Tables}
use Rattle.stateful_exec_laws.specs.Setting.{setting}
use Rattle.stateful_exec_laws.specs.Caching.{CacheStands}
use Rattle.stateful_exec_laws.specs.Requesting.{brought_by, IsRequestOf, RequestsStand, AllAbstain}
use Rattle.stateful_exec_laws.specs.Requesting.{QueueStands}
use Rattle.stateful_exec_laws.specs.Running.{RunsStand}

-- the numbers that are drawn next are above all that were drawn
pub record NumbersStand {B C I : Type 0} (p : Past B C I) (next_job next_fetch : ℕ) : Type 0 where
  pub jobs : (j : ℕ) → started_for j p ≢ None → j < next_job
  pub unturned : (j : ℕ) → next_job ≤ j → turns j p ≡ 0
  pub fetches : (f : ℕ) → asked_for f p ≢ None → f < next_fetch

module _ {B C I P R D H G U : Type 0} (w : Workings B C I P R D H G U)
    (stored : ℕ → Option (Named B)) (p : Past B C I) where
  -- The tables stand for the past, over the points of blocks: that of the anchor is where the
  -- databases are.
  pub record TablesStand (points : Digest → Point w) (point : Point w) (next : w.Ids)
      (v : Tables B C I R U) : Type 0 where
    pub at_anchor : points v.anchor.digest ≡ point
    pub cache : CacheStands w stored p points next v.anchor v.pause v.cache
    pub runs : RunsStand w stored p points next v.anchor v.cache v.runs
    pub requests : RequestsStand w stored p v.runs v.requests
    pub once : (t : ℕ) → IsSome (at v.requests t) → at v.queued t ≡ None
    pub queue : QueueStands w stored p v.queued v.recovered
    pub numbers : NumbersStand p v.next_job v.next_fetch

  -- a live request that is served: it is in no table
  pub record IsInHand (t : ℕ) (request : Request B C I) (v : Tables B C I R U) : Type 0 where
    pub absent : at v.requests t ≡ None
    pub not_queued : at v.queued t ≡ None
    pub own : ticket_by request ≡ t
    pub asked : IsRequestOf w stored p t request
    pub brought : All (Met (setting w stored) p) (brought_by request)

-- From one moment to a later one some marks are made, and the tables stand for the past with them.
-- Where each request that waited abstained, each one that waits still does. No database moves.
pub record StandsBehind {B C I P R D H G U : Type 0} (w : Workings B C I P R D H G U)
    (stored : ℕ → Option (Named B)) (p : Past B C I) (points : Digest → Point w) (point : Point w)
    (m now : Moment w) : Type 0 where
  pub more : List (Mark B)
  pub marks_are : now.marks ≡ m.marks ++ more
  pub members_are : now.members ≡ m.members
  pub stands : TablesStand w stored (after p more) points point now.next now.state
  pub waiting : AllAbstain w stored p m.state.requests
      → AllAbstain w stored (after p more) now.state.requests
