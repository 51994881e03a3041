-- Pauses for a finalization or a prune, and what resumes behind them.
use Rattle.std.specs.Prelude.{◌≡◌, ℕ, Option}
use Rattle.stateful_base.specs.Names.{Named}
use Rattle.stateful_exec_tables.specs.Phase.{parked_in, not_parked, unacquired_in, not_unacquired}
use Rattle.stateful_exec_model.specs.Workings.{Workings}
use Rattle.stateful_exec_model.specs.Moments.{Moment}
use Rattle.stateful_exec_tables.specs.Tables.{requested}
use Rattle.stateful_exec_model.specs.Rules.{Advances, Acquires}
use Rattle.stateful_exec_model.specs.Causes.{FaultsAdvance, FaultsAcquire}
use Rattle.stateful_exec_model.specs.Ending.{InTurn, StopsAt}
use Rattle.stateful_exec_tables.specs.declared.error.ExecError.{ExecError}
use Rattle.stateful_exec_tables.specs.declared.error.ExecError.TheVariants.{OutOfMemory}
use Rattle.stateful_exec_pause.specs.declared.pause.Pause.TheVariants.{Free}
use Rattle.stateful_exec_tables.specs.declared.tables.Released.{Released}
use Rattle.stateful_exec_tables.specs.declared.tables.Requested.{Requested}

module _ {B C I P R D H G U : Type 0} (w : Workings B C I P R D H G U) where
  -- a parked request goes along its path
  abbrev pub GoesAlong : Released B C I → Moment w → Moment w → Type 0
  GoesAlong r m now = Advances w m r.ticket (requested r.request) r.path now

  -- a request acquires what it needs, anew
  abbrev pub AcquiresAnew : (ℕ → Option (Named B))
      → ℕ × Requested B C I
      → Moment w
      → Moment w
      → Type 0
  AcquiresAnew stored e m now = Acquires w stored m e.0 (requested e.1.request) now

  -- execution isn't paused any more, and the parked requests are taken out of their table
  abbrev pub unparked : Moment w → Moment w
  unparked m =
      record m { state = record m.state { pause = Free; requests = not_parked m.state.requests } }

  -- those are taken out that are to acquire anew what they need
  abbrev pub unsettled : Moment w → Moment w
  unsettled m = record m { state = record m.state { requests = not_unacquired m.state.requests } }

  -- Execution goes on behind a pause: the parked requests go along their paths, and then all others
  -- that wait for no run acquire what they need anew, each by ascending tickets.
  pub record Resumes (stored : ℕ → Option (Named B)) (m now : Moment w) : Type 0 where
    pub mid : Moment w
    pub along : InTurn GoesAlong (parked_in m.state.requests) (unparked m) mid
    pub anew : InTurn (AcquiresAnew stored) (unacquired_in mid.state.requests) (unsettled mid) now

module _ {B C I P R D H G U : Type 0} (w : Workings B C I P R D H G U) (rose : Type 0) where
  -- a parked request wasn't run on
  abbrev pub FaultsAlong : Released B C I → Moment w → ExecError → Type 0
  FaultsAlong r m e = FaultsAdvance w rose m r.path e

  -- a request didn't acquire what it needs
  abbrev pub FaultsAnew : (ℕ → Option (Named B))
      → ℕ × Requested B C I
      → Moment w
      → ExecError
      → Type 0
  FaultsAnew stored x m e = FaultsAcquire w rose stored m (requested x.1.request) e

  -- memory ran out; or one of the requests wasn't served
  pub data FaultsResume (stored : ℕ → Option (Named B)) (m : Moment w)
      (e : ExecError) : Type 0 where
    memory : e ≡ OutOfMemory → FaultsResume stored m e
    along : StopsAt (GoesAlong w) FaultsAlong (parked_in m.state.requests) (unparked w m) e
        → FaultsResume stored m e
    anew : (mid : Moment w) → InTurn (GoesAlong w) (parked_in m.state.requests) (unparked w m) mid
        → StopsAt (AcquiresAnew w stored) (FaultsAnew stored) (unacquired_in mid.state.requests)
        (unsettled w mid) e
        → FaultsResume stored m e
