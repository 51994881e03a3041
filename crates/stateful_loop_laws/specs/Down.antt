-- What a machine stands for at which nothing goes on: a new one, one that was stopped, and one that
-- is to be opened.
use Rattle.std.specs.Prelude.{◌≡◌, ◌≢◌, ◌<◌, ℕ, false, None, []}
use Rattle.stateful_history.specs.Barriers.{begun_over}
use Rattle.stateful_history.specs.Past.{Past}
use Rattle.stateful_history.specs.Stops.{NothingLive}
use Rattle.stateful_history.specs.declared.mark.Mark.{Mark}
use Rattle.stateful_history.specs.declared.mark.Mark.TheVariants.{Withdrawn, Ended, Declined}
use Rattle.stateful_history.specs.declared.mark.Mark.TheVariants.{Dropped, Stopped}
use Rattle.stateful_exec_model.specs.Workings.{Workings}
use Rattle.stateful_exec_pause.specs.declared.pause.Pause.TheVariants.{Free}
use Rattle.stateful_exec_laws.specs.Standing.{NumbersStand}
use Rattle.stateful_loop_model.specs.Moments.{Moment}

-- a mark by which live work ends, or that of a stop
abbrev pub IsEnding : {B : Type 0} → Mark B → Type 0
IsEnding (Withdrawn f) = Unit {0}
IsEnding (Ended j how) = Unit {0}
IsEnding (Declined t) = Unit {0}
IsEnding (Dropped t) = Unit {0}
IsEnding Stopped = Unit {0}
IsEnding mark = ⊥

module _ {B C I P R D H G U : Type 0} (w : Workings B C I P R D H G U) where
  -- the machine is down, and nothing goes on: no request, run, build, finalization or barrier
  pub record IsEmpty (m : Moment w) : Type 0 where
    pub up : m.loop.up ≡ false
    pub queue : m.loop.queue ≡ []
    pub actions : m.loop.actions ≡ []
    pub front : (m.loop.front ≡ None) × (m.execution.front ≡ None)
    pub build : m.execution.build ≡ None
    pub barriers : m.loop.barriers ≡ []
    pub cache : m.execution.state.cache ≡ []
    pub runs : m.execution.state.runs ≡ []
    pub requests : (m.execution.state.requests ≡ [])
        × (m.execution.state.queued ≡ [])
        × (m.execution.state.recovered ≡ [])
    pub free : m.execution.state.pause ≡ Free

  module _ (p : Past B C I) (m : Moment w) where
    -- each job, fetch and barrier so far has a number below the one that is drawn next, and no
    -- database is away
    pub record IsCounted : Type 0 where
      pub numbers : NumbersStand p m.execution.state.next_job m.execution.state.next_fetch
      pub barriers : (k : ℕ) → begun_over k p ≢ None → k < m.loop.next_barrier
      pub none_away : w.kind.NoneAway m.members

    -- A machine that is down stands for a past behind which nothing is live.
    pub record IsDownAt : Type 0 where
      pub empty : IsEmpty m
      pub counted : IsCounted
      pub nothing : NothingLive p
