-- Why a rule doesn't go on.
use Rattle.std.specs.Prelude.{◌≡◌, ◌<◌, ◌^◌, ◌⊎◌, ◌∷◌, ℕ, Option, Some, None, IsSome, List, true}
use Rattle.stateful_base.specs.Causes.{Rose}
use Rattle.stateful_base.specs.Names.{Named}
use Rattle.stateful_db.specs.Databases.{Databases}
use Rattle.stateful_db.specs.declared.database.DbCall.{DbCall}
use Rattle.stateful_db.specs.declared.database.DbCall.TheVariants as call
use Rattle.stateful_exec_model.specs.Building.{FaultsPropose}
use Rattle.stateful_exec_model.specs.Causes.{FaultsAcquire, FaultsStart}
use Rattle.stateful_exec_model.specs.Finalizing.{front_at, Conflicts, FaultsBegin, FaultsMove}
use Rattle.stateful_exec_model.specs.Finalizing.{FaultsObserve}
use Rattle.stateful_exec_tables.specs.Pausing.{AwaitsRuns}
use Rattle.stateful_exec_model.specs.Pausing.{FaultsResume}
use Rattle.stateful_exec_tables.specs.Tables.{requested}
use Rattle.stateful_exec_tables.specs.Tables.{IsLeft}
use Rattle.stateful_exec_model.specs.Workings.{Workings}
use Rattle.stateful_exec_tables.specs.declared.error.ExecError.{ExecError}
use Rattle.stateful_exec_model.specs.declared.front.Stage.TheVariants.{Begun, Advanced}
use Rattle.stateful_exec_walk.specs.declared.request.Request.{Request}
use Rattle.stateful_exec_cache.specs.Cache.{IsIn}
use Rattle.stateful_loop_model.specs.Errors.{error_of_exec}
use Rattle.stateful_loop_model.specs.Message.{is_verification}
use Rattle.stateful_loop_model.specs.Moments.{Moment, inner, with_loop}
use Rattle.stateful_loop_model.specs.Rules.{Needed, IsCollected, IsIdle, IsFinalizing, IsCalm}
use Rattle.stateful_loop_model.specs.Rules.{HasStates, Takes}
use Rattle.stateful_loop_model.specs.declared.message.Action.{Action}
use Rattle.stateful_loop_model.specs.declared.message.Action.TheVariants as action
use Rattle.stateful_loop_model.specs.declared.message.Message.{Message}
use Rattle.stateful_loop_model.specs.declared.message.Message.TheVariants as message
use Rattle.stateful_loop_model.specs.declared.tables.Finalizing.{Finalizing}
use Rattle.stateful_loop_model.specs.Barriers.{awaiting}
use Rattle.stateful_loop_model.specs.declared.barriers.Active.{Active}
use Rattle.stateful_loop_model.specs.declared.error.StepError.{StepError}
use Rattle.stateful_loop_model.specs.declared.error.StepError.TheVariants.{Exhausted, Failed}
use Rattle.stateful_loop_model.specs.declared.error.StepError.TheVariants.{DatabaseFault}
use Rattle.stateful_loop_model.specs.declared.error.StepError.TheVariants.{OutOfMemory}

module _ {Ids S T : Type 0} (d : Databases Ids S T) (before now : ℕ → ℕ) (new : d.Members) where
  -- of fewer than 2^64 databases: the one of this number failed at this call, has counted it, and
  -- is lost with its medium
  abbrev pub HasCounted : ℕ → DbCall → DbCall → Type 0
  HasCounted i given call =
      d.count < 2 ^ 64 → (given ≡ call) × (i < d.count) × Rose (before i) (now i) × d.Lost new i

  -- no barrier has begun: no number was left for it, or one was, and a database failed
  abbrev pub FaultsBarrier : ℕ → StepError → Type 0
  FaultsBarrier number OutOfMemory = Unit {0}
  FaultsBarrier number Exhausted = IsLeft number → ⊥
  FaultsBarrier number (DatabaseFault i given) = HasCounted i given call.Finalize × IsLeft number
  FaultsBarrier number e = ⊥

  -- a flush wasn't done: the database failed, or no open barrier of this number awaits its answer
  abbrev pub FaultsFlush : List Active → ℕ → ℕ → StepError → Type 0
  FaultsFlush barriers k i OutOfMemory = Unit {0}
  FaultsFlush barriers k i Failed = awaiting k i barriers ≡ None
  FaultsFlush barriers k i (DatabaseFault n given) = (n ≡ i) × HasCounted n given call.Flush
  FaultsFlush barriers k i e = ⊥

  -- a database failed at the apply, or isn't here
  abbrev pub FaultsApply : d.Members → StepError → Type 0
  FaultsApply old OutOfMemory = Unit {0}
  FaultsApply old Failed = d.point old ≡ None
  FaultsApply old (DatabaseFault i given) = HasCounted i given call.Apply
  FaultsApply old e = ⊥

-- execution refused a call, for one of these reasons
abbrev pub Via : (ExecError → Type 0) → StepError → Type 0
Via Faults e = (fault : ExecError) × Faults fault × (e ≡ error_of_exec fault)

module _ {B C I P R D H G U : Type 0} (w : Workings B C I P R D H G U)
    (stored : ℕ → Option (Named B)) (rose : Type 0) (before now : ℕ → ℕ)
    (new : w.kind.Members) where
  -- why a message that is taken isn't done: a request doesn't acquire what it needs; or another
  -- block is the anchor at the finalized one's height; or it is above the next height, or on
  -- another parent
  abbrev pub FaultsMessage : Moment w → Message B C I → StepError → Type 0
  FaultsMessage m (message.Request request) e =
      Via (FaultsAcquire w rose stored (inner w m) (requested request)) e
  FaultsMessage m (message.Finalized t b) e = Via (Conflicts w.header m.execution.state.anchor b) e
      ⊎
      ((m.execution.state.anchor.height.0 < w.header.height b.block)
      × Via (FaultsBegin w.header m.execution.state.anchor b) e)
  FaultsMessage m (message.Subscribe t) e = ⊥

  -- Why the rule that could go didn't: memory ran out, or what it does was refused.
  pub data FaultsRule (m : Moment w) (e : StepError) : Type 0 where
    memory : e ≡ OutOfMemory → FaultsRule m e
    scheduling : {request : Request B C I} {rest : List (Message B C I)}
        → IsCollected w m
        → IsSome m.execution.build
        → m.loop.queue ≡ message.Request request ∷ rest
        → is_verification (message.Request request) ≡ true
        → Via
        (FaultsAcquire w rose stored (inner w (with_loop w m (record m.loop { queue = rest })))
        (requested request))
        e
        → FaultsRule m e
    running : {f : Finalizing B G}
        → IsFinalizing w m f
        → m.execution.front ≡ front_at f.block Begun
        → AwaitsRuns w.header m.execution.state 0
        → (IsIn m.execution.state.cache f.block.digest → ⊥)
        → Via (FaultsStart w rose m.execution.state.next_job m.members m.next) e
        → FaultsRule m e
    advancing : {f : Finalizing B G} → IsFinalizing w m f → HasStates w m f.block
        → Via (FaultsMove w rose f.block m.execution.state.cache m.execution.front) e
        → FaultsRule m e
    applying : {f : Finalizing B G}
        → IsFinalizing w m f
        → HasStates w m f.block
        → FaultsApply w.kind before now new m.members e
        → FaultsRule m e
    covering : {f : Finalizing B G} {captured : G}
        → IsFinalizing w m f
        → m.execution.front ≡ front_at f.block Advanced
        → f.captured ≡ Some captured
        → Needed m.loop.durability
        → FaultsBarrier w.kind before now new m.loop.next_barrier e
        → FaultsRule m e
    observing : {f : Finalizing B G} {captured : G}
        → IsFinalizing w m f
        → m.execution.front ≡ front_at f.block Advanced
        → f.captured ≡ Some captured
        → Via (FaultsObserve w rose f.block captured m.members m.execution.state.next_job) e
        → FaultsRule m e
    ending : {f : Finalizing B G}
        → IsFinalizing w m f
        → m.execution.front ≡ front_at f.block Advanced
        → f.captured ≡ None
        → Via (FaultsResume w rose stored (inner w m)) e → FaultsRule m e
    beginning : IsIdle w m
        → Needed m.loop.durability
        → FaultsBarrier w.kind before now new m.loop.next_barrier e
        → FaultsRule m e
    building : {t : ℕ} {rest : List (Action B C I)}
        → IsCalm w m
        → m.loop.actions ≡ action.Build t ∷ rest
        → Via (FaultsPropose w rose t m.members m.next m.execution.state) e → FaultsRule m e
    taking : {x : Message B C I} {mid : Moment w}
        → IsCalm w m
        → Takes w x m mid
        → FaultsMessage mid x e
        → FaultsRule m e
