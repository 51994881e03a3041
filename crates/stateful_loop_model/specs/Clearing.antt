-- How all that goes on is dropped.
use Rattle.std.specs.Prelude.{◌≡◌, [], false, None}
use Rattle.stateful_exec_model.specs.Workings.{Workings}
use Rattle.stateful_exec_pause.specs.declared.pause.Pause.TheVariants.{Free}
use Rattle.stateful_loop_model.specs.Moments.{Moment}

module _ {B C I P R D H G U : Type 0} (w : Workings B C I P R D H G U) where
  -- The machine is down, and nothing goes on: no request, run, build, finalization or barrier. The
  -- numbers that are drawn next are as they were, and so are the databases and the marks.
  pub record IsCleared (m now : Moment w) : Type 0 where
    pub up : now.loop.up ≡ false
    pub queue : now.loop.queue ≡ []
    pub actions : now.loop.actions ≡ []
    pub front : (now.loop.front ≡ None) × (now.execution.front ≡ None)
    pub build : now.execution.build ≡ None
    pub barriers : now.loop.barriers ≡ []
    pub cache : now.execution.state.cache ≡ []
    pub runs : now.execution.state.runs ≡ []
    pub requests : (now.execution.state.requests ≡ [])
        × (now.execution.state.queued ≡ [])
        × (now.execution.state.recovered ≡ [])
    pub free : now.execution.state.pause ≡ Free
    pub anchor : now.execution.state.anchor ≡ m.execution.state.anchor
    pub numbers : (now.execution.state.next_job ≡ m.execution.state.next_job)
        × (now.execution.state.next_fetch ≡ m.execution.state.next_fetch)
        × (now.loop.next_barrier ≡ m.loop.next_barrier)
    pub rest : (now.members ≡ m.members) × (now.next ≡ m.next) × (now.marks ≡ m.marks)
