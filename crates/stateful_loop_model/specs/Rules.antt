-- What goes on without another event, a constructor a rule.
use Rattle.std.specs.Prelude.{◌≡◌, ◌≢◌, ◌<◌, ◌≤◌, ◌+◌, ◌⊎◌, ◌++◌, ◌∷◌, [], ℕ, Bool, true, false}
use Rattle.std.specs.Prelude.{Option, Some, None, IsSome, List, map, length, drop, All}
use Rattle.stateful_base.specs.Names.{Named}
use Rattle.stateful_db.specs.Barrier.{open_at}
use Rattle.stateful_db.specs.declared.barrier.Handle.{Handle}
use Rattle.stateful_durability.specs.Durability.{Coverage, covered_by_barriers, after_completion}
use Rattle.stateful_durability.specs.Durability.{with_duplicate, receipts_up_to, receipts_above}
use Rattle.stateful_history.specs.declared.mark.JobKind.TheVariants as job
use Rattle.stateful_history.specs.declared.mark.Mark.{Mark}
use Rattle.stateful_history.specs.declared.mark.Mark.TheVariants as mark
use Rattle.stateful_exec_cache.specs.Cache.{IsIn}
use Rattle.stateful_exec_model.specs.Workings.{Workings, Point}
use Rattle.stateful_exec_model.specs.Moments as exec
use Rattle.stateful_exec_walk.specs.Request.{ticket_by}
use Rattle.stateful_exec_tables.specs.Tables.{requested}
use Rattle.stateful_exec_model.specs.Rules.{Acquires}
use Rattle.stateful_exec_tables.specs.Tables.{IsLeft}
use Rattle.stateful_exec_tables.specs.Queueing.{IsReady, unqueued}
use Rattle.stateful_exec_model.specs.Building.{StartsBuild}
use Rattle.stateful_exec_model.specs.Finalizing.{IsRedelivered, MayBegin, front_at}
use Rattle.stateful_exec_pause.specs.Boundary.{IsBoundaryOf}
use Rattle.stateful_exec_model.specs.Finalizing.{RunsFinal, Moves, Observes}
use Rattle.stateful_exec_tables.specs.Pausing.{AwaitsRuns}
use Rattle.stateful_exec_tables.specs.Pausing.{Pauses}
use Rattle.stateful_exec_model.specs.Pausing.{Resumes}
use Rattle.stateful_exec_model.specs.declared.front.Stage.TheVariants.{Begun, Ran, Advanced}
use Rattle.stateful_exec_walk.specs.declared.request.Request.{Request}
use Rattle.stateful_loop_model.specs.Barriers.{broken, flushed}
use Rattle.stateful_loop_model.specs.Message.{is_verification}
use Rattle.stateful_loop_model.specs.Moments.{Moment, inner, with_inner, with_loop}
use Rattle.stateful_loop_model.specs.declared.barriers.Active.{Active}
use Rattle.stateful_loop_model.specs.declared.message.Action.{Action}
use Rattle.stateful_loop_model.specs.declared.message.Action.TheVariants as action
use Rattle.stateful_loop_model.specs.declared.message.Message.{Message}
use Rattle.stateful_loop_model.specs.declared.message.Message.TheVariants as message
use Rattle.stateful_loop_model.specs.declared.tables.Finalizing.{Finalizing}

-- a barrier has to begin: fewer than two are open, and something applied isn't covered by one
abbrev pub Needed : Coverage → Type 0
Needed c = (length c.barriers < 2) × (covered_by_barriers c < c.applied)

-- the mark of an acknowledged receipt
abbrev pub acknowledged : {B : Type 0} → ℕ × ℕ → Mark B
acknowledged receipt = mark.Acknowledged receipt.1 (record { 0 = receipt.0 })

-- a finalization that has begun, of which nothing was captured yet
abbrev pub finalizing : {B G : Type 0} → ℕ → Named B → Finalizing B G
finalizing t b = record { ticket = t; block = b; captured = None }

module _ {B C I P R D H G U : Type 0} (w : Workings B C I P R D H G U) where
  -- all recovered proposals are among the actions
  abbrev pub IsCollected : Moment w → Type 0
  IsCollected m = (m.loop.up ≡ true) × (m.execution.state.recovered ≡ [])

  -- nothing is in front
  abbrev pub IsIdle : Moment w → Type 0
  IsIdle m = IsCollected m × (m.execution.build ≡ None) × (m.loop.front ≡ None)

  -- this finalization is in front
  abbrev pub IsFinalizing : Moment w → Finalizing B G → Type 0
  IsFinalizing m f = IsCollected m × (m.execution.build ≡ None) × (m.loop.front ≡ Some f)

  -- nothing is in front, and no barrier has to break, to complete or to begin
  abbrev pub IsCalm : Moment w → Type 0
  IsCalm m =
      IsIdle m
      × (broken m.loop.barriers ≡ None)
      × (flushed m.loop.barriers ≡ None)
      × (Needed m.loop.durability → ⊥)

  -- A recovered proposal is to be built, behind what is to be done already.
  pub record Collects (t : ℕ) (m now : Moment w) : Type 0 where
    pub more : List ℕ
    pub first : m.execution.state.recovered ≡ t ∷ more
    pub becomes : now ≡ record m {
      execution = record m.execution { state = record m.execution.state { recovered = more } };
      loop = record m.loop { actions = m.loop.actions ++ action.Build t ∷ [] };
    }

  -- a request acquires what it needs
  pub record Schedules (stored : ℕ → Option (Named B)) (request : Request B C I)
      (m now : Moment w) : Type 0 where
    pub then : exec.Moment w
    pub acquires : Acquires w stored (inner w m) (ticket_by request) (requested request) then
    pub becomes : now ≡ with_inner w m then

  -- A barrier over all that is applied begins, under the next number, with the tokens of all
  -- databases.
  pub record BeginsBarrier (m now : Moment w) : Type 0 where
    pub barrier : List Handle
    pub count : length barrier ≡ w.kind.count
    pub handles : (i : ℕ)
        → i < w.kind.count
        → open_at barrier i ≡ Some (record { place = w.kind.place m.members i })
    pub number_left : IsLeft m.loop.next_barrier
    pub becomes : now ≡ record m {
      loop = record m.loop {
        durability =
            record m.loop.durability
            { barriers = m.loop.durability.barriers ++ m.loop.durability.applied ∷ [] };
        barriers =
            m.loop.barriers
            ++ record {
              number =
                  m.loop.next_barrier;
              height =
                  record { 0 = m.loop.durability.applied };
              barrier = barrier;
            }
            ∷ [];
        next_barrier = m.loop.next_barrier + 1;
      };
      members = w.kind.finalized m.members;
      marks =
          m.marks
          ++ mark.BarrierBegun m.loop.next_barrier (record { 0 = m.loop.durability.applied }) ∷ [];
    }

  -- The oldest barrier, which was flushed, is done: its height is durable, and the receipts of
  -- durable heights are acknowledged, by ascending heights.
  pub record CompletesBarrier (active : Active) (m now : Moment w) : Type 0 where
    pub later : m.loop.durability.durable < active.height.0
    pub becomes : now ≡ record m {
      loop = record m.loop {
        durability =
            record (after_completion m.loop.durability (Some active.height))
            { held = receipts_above active.height.0 m.loop.durability.held };
        barriers = drop 1 m.loop.barriers;
      };
      marks =
          m.marks ++ mark.BarrierDone active.number active.height true
          ∷ map acknowledged (receipts_up_to active.height.0 m.loop.durability.held);
    }

  -- the first of the actions is taken out, or the first message of the mailbox, where there is no
  -- action
  pub data Takes (x : Message B C I) (m mid : Moment w) : Type 0 where
    of_action : {rest : List (Action B C I)}
        → m.loop.actions ≡ action.Message x ∷ rest
        → mid ≡ with_loop w m (record m.loop { actions = rest })
        → Takes x m mid
    of_message : {rest : List (Message B C I)}
        → m.loop.actions ≡ []
        → m.loop.queue ≡ x ∷ rest
        → mid ≡ with_loop w m (record m.loop { queue = rest })
        → Takes x m mid

  -- The build of a proposal is started where its parent is known, and else it is declined.
  pub data Builds (provider : P) (t : ℕ) (m now : Moment w) : Type 0 where
    starts : {state : _} {build : _} {next : w.Ids}
        → (s : StartsBuild w t provider m.members m.next next m.execution.state state build)
        → now ≡ record m {
          execution = record m.execution { state = state; build = build };
          next = next;
          marks =
              m.marks
              ++ mark.Started m.execution.state.next_job job.Build s.proposal.ancestry.first.digest
              ∷ [];
        }
        → Builds provider t m now
    declines : ((p : _) → IsReady m.execution.state t p → ⊥)
        → now ≡ record m {
          execution = record m.execution { state = unqueued m.execution.state t };
          marks = m.marks ++ mark.Declined t ∷ [];
        }
        → Builds provider t m now

  -- The finalization of a block begins: execution pauses for it, which withdraws the live fetches.
  pub record BeginsFinalization (t : ℕ) (b : Named B) (m now : Moment w) : Type 0 where
    pub may : MayBegin w.header m.execution.state.anchor b
    pub boundary : _
    pub is_boundary : IsBoundaryOf w.header b m.execution.state.cache boundary
    pub state : _
    pub withdrawn : List (Mark B)
    pub pauses : Pauses (Some boundary) m.execution.state state withdrawn
    pub becomes : now ≡ record m {
      execution = record m.execution { state = state; front = front_at b Begun };
      loop = record m.loop { front = Some (finalizing t b) };
      marks = m.marks ++ mark.Began t b ∷ withdrawn;
    }

  -- What becomes of a message that is taken: a request acquires what it needs; a subscription is
  -- answered; a block that was applied is acknowledged where its height is durable, and else its
  -- receipt is held behind the others of its height; the finalization of another one begins.
  pub data DoesMessage (stored : ℕ → Option (Named B)) (m now : Moment w) : Message B C I
      → Type 0 where
    schedules : {request : Request B C I}
        → Schedules stored request m now
        → DoesMessage stored m now (message.Request request)
    answers : {t : ℕ}
        → now ≡ record m { marks = m.marks ++ mark.Databases t ∷ [] }
        → DoesMessage stored m now (message.Subscribe t)
    acknowledges : {t : ℕ} {b : Named B}
        → IsRedelivered w.header m.execution.state.anchor b
        → w.header.height b.block ≤ m.loop.durability.durable
        → now ≡ record m { marks = m.marks ++ acknowledged (w.header.height b.block, t) ∷ [] }
        → DoesMessage stored m now (message.Finalized t b)
    holds : {t : ℕ} {b : Named B}
        → IsRedelivered w.header m.execution.state.anchor b
        → m.loop.durability.durable < w.header.height b.block
        → now
        ≡ with_loop w m
        (record m.loop {
          durability =
              record m.loop.durability {
                held =
                    with_duplicate m.loop.durability.held (w.header.height b.block) t;
              };
        })
        → DoesMessage stored m now (message.Finalized t b)
    begins : {t : ℕ} {b : Named B}
        → m.execution.state.anchor.height.0 < w.header.height b.block
        → BeginsFinalization t b m now
        → DoesMessage stored m now (message.Finalized t b)

  -- the finalized block has states: it is cached and no run is awaited, or it was run
  abbrev pub HasStates : Moment w → Named B → Type 0
  HasStates m b =
      ((m.execution.front ≡ front_at b Begun)
      × AwaitsRuns w.header m.execution.state 0
      × IsIn m.execution.state.cache b.digest)
      ⊎ ((batch : U) × (m.execution.front ≡ front_at b (Ran batch)))

  -- A run of the finalized block begins.
  pub record RunsFinalized (b : Named B) (m now : Moment w) : Type 0 where
    pub state : _
    pub front : _
    pub next : w.Ids
    pub runs : RunsFinal w b m.members m.next next m.execution.state state front
    pub becomes : now ≡ record m {
      execution = record m.execution { state = state; front = front };
      next = next;
      marks = m.marks ++ mark.Started m.execution.state.next_job job.Finalized b.digest ∷ [];
    }

  -- The finalized block is the anchor, and the databases have applied its batch.
  pub record AppliesBlock (f : Finalizing B G) (m now : Moment w) : Type 0 where
    pub batch : U
    pub captured : G
    pub state : _
    pub front : _
    pub moves : Moves w f.block m.members m.execution.state state m.execution.front front batch
        captured
    pub above : All (λ receipt. receipt.0 < w.header.height f.block.block) m.loop.durability.held
    pub members : w.kind.Members
    pub applied : (p q : Point w) (c : List (Point w))
        → w.kind.point m.members ≡ Some p
        → w.shows batch (q ∷ p ∷ c)
        → members ≡ w.kind.applied m.members q
    pub here : w.kind.point members ≡ None → ⊥
    pub tokens : (i : ℕ) → w.kind.tokens members i ≡ w.kind.tokens m.members i
    pub becomes : now ≡ record m {
      execution = record m.execution { state = state; front = front };
      loop = record m.loop {
        durability = record m.loop.durability { applied = w.header.height f.block.block };
        front = Some (record f { captured = Some captured });
      };
      members = members;
      marks = m.marks ++ mark.Applied f.block ∷ [];
    }

  -- The application has observed the states behind the finalized block, and may have left a hook.
  pub record ObservesBlock (f : Finalizing B G) (captured : G) (m now : Moment w) : Type 0 where
    pub state : _
    pub front : _
    pub marks : List (Mark B)
    pub live : Bool
    pub observes : Observes w f.block captured m.members m.execution.state state m.marks marks front
        live
    pub becomes : now ≡ record m {
      execution = record m.execution { state = state; front = front };
      loop = record m.loop { front = Some (finalizing f.ticket f.block) };
      marks = marks;
    }

  -- The finalization has ended: its receipt is held, and execution goes on.
  pub record EndsFinalization (stored : ℕ → Option (Named B)) (f : Finalizing B G)
      (m now : Moment w) : Type 0 where
    pub then : exec.Moment w
    pub resumes : Resumes w stored (inner w m) then
    pub becomes : now ≡ record (with_inner w m then) {
      execution = record m.execution { state = then.state; front = None };
      loop = record m.loop {
        durability =
            record m.loop.durability
            { held = m.loop.durability.held ++ (w.header.height f.block.block, f.ticket) ∷ [] };
        front = None;
      };
    }

  module _ (stored : ℕ → Option (Named B)) (provider : P) where
    -- The rules, each with its guard: what is recovered is collected first; then a build in front
    -- has verifications scheduled and other messages put off; a finalization in front goes on step
    -- by step; and with nothing in front a barrier breaks, which ends the loop, else one completes,
    -- else one begins, else the first action or message is taken.
    pub data Rule (m now : Moment w) : Type 0 where
      collects : {t : ℕ} → m.loop.up ≡ true → Collects t m now → Rule m now
      schedules : {request : Request B C I} {rest : List (Message B C I)}
          → IsCollected m
          → IsSome m.execution.build
          → m.loop.queue ≡ message.Request request ∷ rest
          → is_verification (message.Request request) ≡ true
          → Schedules stored request (with_loop w m (record m.loop { queue = rest })) now
          → Rule m now
      puts_off : {x : Message B C I} {rest : List (Message B C I)}
          → IsCollected m
          → IsSome m.execution.build
          → m.loop.queue ≡ x ∷ rest → is_verification x ≡ false
          → now
          ≡ with_loop w m
          (record m.loop
          { queue = rest; actions = m.loop.actions ++ action.Message x ∷ [] })
          → Rule m now
      runs : {f : Finalizing B G}
          → IsFinalizing m f
          → m.execution.front ≡ front_at f.block Begun
          → AwaitsRuns w.header m.execution.state 0
          → (IsIn m.execution.state.cache f.block.digest → ⊥)
          → RunsFinalized f.block m now
          → Rule m now
      applies : {f : Finalizing B G}
          → IsFinalizing m f
          → f.captured ≡ None
          → HasStates m f.block
          → AppliesBlock f m now
          → Rule m now
      covers : {f : Finalizing B G} {captured : G}
          → IsFinalizing m f
          → m.execution.front ≡ front_at f.block Advanced
          → f.captured ≡ Some captured
          → Needed m.loop.durability → BeginsBarrier m now → Rule m now
      observes : {f : Finalizing B G} {captured : G}
          → IsFinalizing m f
          → m.execution.front ≡ front_at f.block Advanced
          → f.captured ≡ Some captured
          → (Needed m.loop.durability → ⊥) → ObservesBlock f captured m now → Rule m now
      ends : {f : Finalizing B G}
          → IsFinalizing m f
          → m.execution.front ≡ front_at f.block Advanced
          → f.captured ≡ None
          → EndsFinalization stored f m now
          → Rule m now
      breaks : {active : Active} → IsIdle m → broken m.loop.barriers ≡ Some active
          → now
          ≡ record m {
            loop =
                record m.loop { up = false };
            marks =
                m.marks ++ mark.BarrierDone active.number active.height false ∷ [];
          }
          → Rule m now
      completes : {active : Active}
          → IsIdle m
          → broken m.loop.barriers ≡ None
          → flushed m.loop.barriers ≡ Some active
          → CompletesBarrier active m now
          → Rule m now
      begins : IsIdle m
          → broken m.loop.barriers ≡ None
          → flushed m.loop.barriers ≡ None
          → Needed m.loop.durability
          → BeginsBarrier m now
          → Rule m now
      builds : {t : ℕ} {rest : List (Action B C I)}
          → IsCalm m
          → m.loop.actions ≡ action.Build t ∷ rest
          → Builds provider t (with_loop w m (record m.loop { actions = rest })) now → Rule m now
      takes : {x : Message B C I} {mid : Moment w}
          → IsCalm m
          → Takes x m mid
          → DoesMessage stored mid now x
          → Rule m now

  -- something can go on without another event, a constructor a guard
  pub data Can (m : Moment w) : Type 0 where
    collect : m.loop.up ≡ true → m.execution.state.recovered ≢ [] → Can m
    drain : IsCollected m → IsSome m.execution.build → m.loop.queue ≢ [] → Can m
    run_or_apply : {f : Finalizing B G}
        → IsFinalizing m f
        → m.execution.front ≡ front_at f.block Begun
        → AwaitsRuns w.header m.execution.state 0
        → Can m
    apply : {f : Finalizing B G} {batch : U}
        → IsFinalizing m f
        → m.execution.front ≡ front_at f.block (Ran batch)
        → Can m
    go_on : {f : Finalizing B G}
        → IsFinalizing m f
        → m.execution.front ≡ front_at f.block Advanced
        → Can m
    break_or_complete : IsIdle m
        → (broken m.loop.barriers ≢ None) ⊎ (flushed m.loop.barriers ≢ None)
        → Can m
    begin : IsIdle m → Needed m.loop.durability → Can m
    take : IsIdle m → (m.loop.actions ≢ []) ⊎ (m.loop.queue ≢ []) → Can m

  -- nothing can go on without another event
  abbrev pub Quiet : Moment w → Type 0
  Quiet m = Can m → ⊥

  -- one rule went, or nothing can go on
  abbrev pub Goes : (stored : ℕ → Option (Named B)) → P → (m now : Moment w) → Bool → Type 0
  Goes stored provider m now true = Rule stored provider m now
  Goes stored provider m now false = Quiet m × (now ≡ m)

  -- rules, one after another
  pub data Along (stored : ℕ → Option (Named B)) (provider : P) (m : Moment w) : Moment w
      → Type 0 where
    none : Along stored provider m m
    further : {mid now : Moment w}
        → Along stored provider m mid
        → Rule stored provider mid now
        → Along stored provider m now
