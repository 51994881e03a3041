-- How an event is taken in.
use Rattle.std.specs.Prelude.{◌≡◌, ◌++◌, ◌∷◌, [], ℕ, not, false, Option, Some, None, List, filter}
use Rattle.stateful_base.specs.Names.{Named}
use Rattle.stateful_base.specs.declared.floor.Floor.{Floor}
use Rattle.stateful_db.specs.Barrier.{open_at}
use Rattle.stateful_db.specs.declared.barrier.Flushed.{Flushed}
use Rattle.stateful_db.specs.declared.barrier.Flushed.TheVariants.{Good, Interrupted}
use Rattle.stateful_db.specs.declared.database.FlushToken.{FlushToken}
use Rattle.stateful_db.specs.declared.application.ProposalKind.TheVariants as kind
use Rattle.stateful_history.specs.declared.event.Event.{Event}
use Rattle.stateful_history.specs.declared.event.Event.TheVariants as event
use Rattle.stateful_history.specs.declared.mark.Mark.{Mark}
use Rattle.stateful_exec_model.specs.Built.{IsLiveBuild, TurnsBuild, FaultsTurn, GivesUp}
use Rattle.stateful_exec_model.specs.Fetching.{IsFetched, FaultsFetched}
use Rattle.stateful_exec_model.specs.Finalizing.{IsHookLive, TurnsHook, FaultsHook}
use Rattle.stateful_exec_model.specs.Finalizing.{Completes}
use Rattle.stateful_exec_model.specs.Finalizing.{FaultsComplete}
use Rattle.stateful_exec_model.specs.Moments as exec
use Rattle.stateful_exec_model.specs.Workings.{Workings}
use Rattle.stateful_exec_model.specs.declared.building.Building.{Building}
use Rattle.stateful_exec_model.specs.declared.front.Front.{Front}
use Rattle.stateful_exec_walk.specs.declared.request.Request.TheVariants as request
use Rattle.stateful_exec_tables.specs.declared.state.Tables.{Tables}
use Rattle.stateful_loop_model.specs.Barriers.{awaiting, with_answer}
use Rattle.stateful_loop_model.specs.Causes.{FaultsFlush, Via}
use Rattle.stateful_loop_model.specs.Message.{asks_of, asks_for}
use Rattle.stateful_loop_model.specs.Moments.{Moment, inner, with_inner, with_loop}
use Rattle.stateful_loop_model.specs.declared.barriers.Active.{Active}
use Rattle.stateful_loop_model.specs.declared.error.StepError.{StepError}
use Rattle.stateful_loop_model.specs.declared.error.StepError.TheVariants.{OutOfMemory}
use Rattle.stateful_loop_model.specs.declared.message.Message.{Message}
use Rattle.stateful_loop_model.specs.declared.message.Message.TheVariants as message

module _ {B C I P R D H G U : Type 0} (w : Workings B C I P R D H G U) where
  -- what an answer of a flush makes of the databases: where it was good, what its token covers is
  -- durable
  abbrev pub flushed_by : Flushed → w.kind.Members → ℕ → FlushToken → w.kind.Members
  flushed_by Good m i token = w.kind.flushed m i token.place
  flushed_by Interrupted m i token = m

  -- a database has answered to the open barrier of a number that awaits it
  pub record Flushes (k i : ℕ) (answer : Flushed) (m now : Moment w) : Type 0 where
    pub active : Active
    pub awaits : awaiting k i m.loop.barriers ≡ Some active
    pub token : FlushToken
    pub unanswered : open_at active.barrier i ≡ Some token
    pub becomes : now ≡ record m {
      loop = record m.loop { barriers = with_answer k i answer m.loop.barriers };
      members = flushed_by answer m.members i token;
    }

-- what an event puts into the mailbox
abbrev pub message_by : {B C I : Type 0} → Event B C I → Option (Message B C I)
message_by (event.Verify t ancestry) = Some (message.Request (request.Verify t ancestry))
message_by (event.Prepare t context ancestry input) =
    Some (message.Request (request.Recover t context ancestry input kind.Prepare))
message_by (event.Propose t context ancestry input) =
    Some (message.Request (request.Recover t context ancestry input kind.Propose))
message_by (event.Finalized t b) = Some (message.Finalized t b)
message_by (event.Subscribe t) = Some (message.Subscribe t)
message_by event = None

-- how often a run, a build and a hook have failed
pub record Counts (R D H : Type 0) : Type 0 where
  pub run : R → ℕ
  pub build : D → ℕ
  pub hook : H → ℕ

module _ {B C I P R D H G U : Type 0} (w : Workings B C I P R D H G U) where
  -- a request is given up, wherever it waits
  pub record Cancels (t : ℕ) (m now : Moment w) : Type 0 where
    pub state : Tables B C I R U
    pub build : Option (Building B C D)
    pub marks : List (Mark B)
    pub gives_up : GivesUp m.execution.state state m.execution.build build t marks
    pub becomes : now ≡ record m {
      execution = record m.execution { state = state; build = build };
      loop = record m.loop {
        queue = filter (λ x. not (asks_of x t)) m.loop.queue;
        actions = filter (λ x. not (asks_for x t)) m.loop.actions;
      };
      marks = m.marks ++ marks;
    }

  -- the build of a job is live
  abbrev pub Builds : ℕ → Moment w → Type 0
  Builds j m = (b : Building B C D) × IsLiveBuild w m.execution.build j b

  -- the hook of a job is live
  abbrev pub Hooks : ℕ → Moment w → Type 0
  Hooks j m = (b : Named B) × (hook : H) × IsHookLive w m.execution.front j b hook

  -- A job has a turn: the live build, the live hook, or a run.
  pub data TurnsJob (counts : Counts R D H) (j : ℕ) (m now : Moment w) : Type 0 where
    build : {then : exec.Moment w} {after : Option (Building B C D)}
        → Builds j m
        → TurnsBuild w counts.build (inner w m) m.execution.build j then after
        → now
        ≡ record (with_inner w m then)
        { execution = record m.execution { state = then.state; build = after } }
        → TurnsJob counts j m now
    hook : {marks : List (Mark B)} {after : Option (Front B R U H)} → (Builds j m → ⊥) → Hooks j m
        → TurnsHook w counts.hook m.members m.execution.front j m.marks marks after
        → now ≡ record m { execution = record m.execution { front = after }; marks = marks }
        → TurnsJob counts j m now
    run : {then : exec.Moment w} {after : Option (Front B R U H)}
        → (Builds j m → ⊥)
        → (Hooks j m → ⊥)
        → Completes w counts.run (inner w m) m.execution.front j then after
        → now
        ≡ record (with_inner w m then)
        { execution = record m.execution { state = then.state; front = after } }
        → TurnsJob counts j m now

  -- What an event does before what goes on without it: a request or a finalization enters the
  -- mailbox; a request is given up; a fetch is answered; a job has a turn; a database has answered
  -- to a barrier; the machine is to stop. Others do nothing.
  pub data TakesIn (stored : ℕ → Option (Named B)) (counts : Counts R D H)
      (m now : Moment w) : Event B C I
      → Type 0 where
    enters : {e : Event B C I} {x : Message B C I}
        → message_by e ≡ Some x
        → now ≡ with_loop w m (record m.loop { queue = m.loop.queue ++ x ∷ [] })
        → TakesIn stored counts m now e
    cancels : {t : ℕ} → Cancels t m now → TakesIn stored counts m now (event.Cancel t)
    fetched : {f : ℕ} {answer : Option (Named B)} {then : exec.Moment w}
        → IsFetched w stored (inner w m) f answer then
        → now ≡ with_inner w m then
        → TakesIn stored counts m now (event.Fetched f answer)
    turns : {j : ℕ} → TurnsJob counts j m now → TakesIn stored counts m now (event.Turn j)
    flushes : {k i : ℕ} {answer : Flushed}
        → Flushes w k i answer m now
        → TakesIn stored counts m now (event.Flushed k i answer)
    stops : now ≡ with_loop w m (record m.loop { up = false })
        → TakesIn stored counts m now event.Stop
    progresses : {i : ℕ} → now ≡ m → TakesIn stored counts m now (event.Progress i)
    restarts : {floor : Floor} {keep : List ℕ}
        → now ≡ m
        → TakesIn stored counts m now (event.Restart floor keep)

  -- Why an event wasn't taken in: memory ran out, or what it does was refused.
  pub data FaultsIntake (stored : ℕ → Option (Named B)) (counts : Counts R D H) (rose : Type 0)
      (before now : ℕ → ℕ) (new : w.kind.Members) (m : Moment w) (e : StepError) : Event B C I
      → Type 0 where
    memory : {v : Event B C I}
        → e ≡ OutOfMemory
        → FaultsIntake stored counts rose before now new m e v
    fetching : {f : ℕ} {answer : Option (Named B)}
        → Via (FaultsFetched w rose stored (inner w m) f answer) e
        → FaultsIntake stored counts rose before now new m e (event.Fetched f answer)
    building : {j : ℕ}
        → Builds j m
        → Via (FaultsTurn w counts.build (inner w m) m.execution.build j) e
        → FaultsIntake stored counts rose before now new m e (event.Turn j)
    hooking : {j : ℕ}
        → Hooks j m
        → Via (FaultsHook w counts.hook m.members m.execution.front j) e
        → FaultsIntake stored counts rose before now new m e (event.Turn j)
    running : {j : ℕ}
        → (Builds j m → ⊥)
        → (Hooks j m → ⊥)
        → Via (FaultsComplete w rose counts.run (inner w m) m.execution.front j) e
        → FaultsIntake stored counts rose before now new m e (event.Turn j)
    flushing : {k i : ℕ} {answer : Flushed}
        → FaultsFlush w.kind before now new m.loop.barriers k i e
        → FaultsIntake stored counts rose before now new m e (event.Flushed k i answer)
