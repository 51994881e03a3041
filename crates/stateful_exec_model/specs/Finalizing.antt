-- Finalizations: which blocks may be final next, runs of them, and what becomes of the anchor and
-- of the cache.
use Rattle.std.specs.Prelude.{◌≡◌, ◌≢◌, ◌<◌, ◌≤◌, ◌+◌, ◌⊎◌, ◌++◌, ◌∷◌, [], ℕ, Bool, true}
use Rattle.std.specs.Prelude.{false, Option, Some, None, IsSome, Result, Ok, Err, List, All}
use Rattle.std.specs.Prelude.{IfOk, IsErrOf}
use Rattle.stateful_base.specs.Causes.{Rose}
use Rattle.stateful_base.specs.Names.{Header, Named}
use Rattle.stateful_base.specs.Anchor.{anchor_by}
use Rattle.stateful_base.specs.declared.anchor.Anchor.{Anchor}
use Rattle.stateful_base.specs.declared.outcome.Finality.TheVariants.{Finalized}
use Rattle.stateful_base.specs.declared.outcome.Moved.{Moved}
use Rattle.stateful_base.specs.declared.outcome.Moved.TheVariants.{Pending, Done}
use Rattle.stateful_db.specs.Hooks.{left}
use Rattle.stateful_db.specs.Works.{HookOf, run_of, hook_of, Costs, CostsHook}
use Rattle.stateful_db.specs.declared.application.AppFault.{AppFault}
use Rattle.stateful_db.specs.declared.application.AppFault.TheVariants.{Failed}
use Rattle.stateful_db.specs.declared.application.Hooked.{Hooked}
use Rattle.stateful_db.specs.declared.application.Hooked.TheVariants as hooked
use Rattle.stateful_history.specs.declared.mark.How.TheVariants as how
use Rattle.stateful_history.specs.declared.mark.JobKind.TheVariants as job
use Rattle.stateful_history.specs.declared.mark.Mark.{Mark}
use Rattle.stateful_history.specs.declared.mark.Mark.TheVariants as mark
use Rattle.stateful_exec_cache.specs.Cache.{IsIn}
use Rattle.stateful_exec_cache.specs.Cut.{IsCutTo, IsRootOf}
use Rattle.stateful_exec_cache.specs.declared.cache.Cached.{Cached}
use Rattle.stateful_table.specs.Table.{at}
use Rattle.stateful_exec_tables.specs.Errors.{error_of_app}
use Rattle.stateful_exec_model.specs.Workings.{Workings, Point}
use Rattle.stateful_exec_model.specs.Moments.{Moment}
use Rattle.stateful_exec_tables.specs.Tables.{IsLeft}
use Rattle.stateful_exec_model.specs.Causes.{FaultsAnswer, FaultsStep}
use Rattle.stateful_exec_model.specs.Built.{CommitsElse}
use Rattle.stateful_exec_model.specs.Ending.{Turns, Agrees, SettlesBy, Steps}
use Rattle.stateful_exec_tables.specs.declared.error.ExecError.{ExecError}
use Rattle.stateful_exec_tables.specs.declared.error.ExecError.TheVariants.{ConflictAtAnchor}
use Rattle.stateful_exec_tables.specs.declared.error.ExecError.TheVariants.{SkippedHeight, NotExtending}
use Rattle.stateful_exec_tables.specs.declared.error.ExecError.TheVariants.{FinalizedRejected}
use Rattle.stateful_exec_tables.specs.declared.error.ExecError.TheVariants.{FinalizedMismatch, Application}
use Rattle.stateful_exec_tables.specs.declared.error.ExecError.TheVariants.{Exhausted, OutOfMemory}
use Rattle.stateful_exec_tables.specs.declared.error.ProposalFault.TheVariants.{Targets}
use Rattle.stateful_exec_model.specs.declared.front.Front.{Front}
use Rattle.stateful_exec_model.specs.declared.front.Stage.{Stage}
use Rattle.stateful_exec_model.specs.declared.front.Stage.TheVariants.{Running, Ran, Advanced, Hooking}
use Rattle.stateful_exec_tables.specs.declared.state.Tables.{Tables}

module _ {B : Type 0} (header : Header B) (anchor : Anchor) (b : Named B) where
  -- no higher than the anchor, and at its height the anchor itself
  pub record IsRedelivered : Type 0 where
    pub low : header.height b.block ≤ anchor.height.0
    pub same : header.height b.block ≡ anchor.height.0 → b.digest ≡ anchor.digest

  -- another block of the anchor's height
  abbrev pub Conflicts : ExecError → Type 0
  Conflicts (ConflictAtAnchor expected given) =
      (header.height b.block ≡ anchor.height.0)
      × (expected ≡ anchor.digest)
      × (given ≡ b.digest)
      × (given ≢ expected)
  Conflicts e = ⊥

  -- no higher than the next height, and on the anchor
  pub record MayBegin : Type 0 where
    pub next : header.height b.block ≤ anchor.height.0 + 1
    pub on_anchor : header.parent b.block ≡ anchor.digest

  -- memory ran out; or the block is above the next height; or it isn't, and has another parent than
  -- the anchor
  abbrev pub FaultsBegin : ExecError → Type 0
  FaultsBegin OutOfMemory = Unit {0}
  FaultsBegin (SkippedHeight expected given) =
      (expected.0 ≡ anchor.height.0 + 1)
      × (given.0 ≡ header.height b.block)
      × (expected.0 < given.0)
  FaultsBegin (NotExtending expected given) =
      (header.height b.block ≤ anchor.height.0 + 1)
      × (expected ≡ anchor.digest)
      × (given ≡ header.parent b.block)
      × (given ≢ expected)
  FaultsBegin e = ⊥

-- a finalization of this block goes on, and has come so far
abbrev pub front_at : {B R U H : Type 0} → Named B → Stage R U H → Option (Front B R U H)
front_at b stage = Some (record { block = b; stage = stage })

-- the finalized block is cached, or its run has led to a batch
abbrev pub HasStates : {B R U H : Type 0}
    → Named B
    → List (Cached U)
    → Option (Front B R U H)
    → Type 0
HasStates b cache front =
    IsIn cache b.digest ⊎ ((c : Named _) × (batch : _) × (front ≡ front_at c (Ran batch)))

module _ {B C I P R D H G U : Type 0} (w : Workings B C I P R D H G U) where
  -- the run is of the finalized block, in the block's context, which is of its round, and hasn't
  -- had a turn
  pub record IsFinalRun (run : R) (b : Named B) (own : w.Ids) (at : Point w) : Type 0 where
    pub round : w.round_of (w.context_of b.block) ≡ w.header.round b.block
    pub runs : w.works.runs run
        (run_of Finalized (w.context_of b.block) (record { first = b; rest = [] }) own at []) 0

  -- A run of the finalized block is live, over the states of the databases, under the next number
  -- of a job. That number and the batches' ids weren't the last ones, and every database was here.
  pub record RunsFinal (b : Named B) (m : w.kind.Members) (next now : w.Ids)
      (old new : Tables B C I R U) (front : Option (Front B R U H)) : Type 0 where
    pub run : R
    pub job_left : IsLeft old.next_job
    pub ids_left : w.kind.Spent next → ⊥
    pub here : w.kind.point m ≡ None → ⊥
    pub state : new ≡ record old { next_job = old.next_job + 1 }
    pub front_is : front ≡ front_at b (Running old.next_job run)
    pub over : (p : Point w) → w.kind.point m ≡ Some p → w.kind.issued next (p ∷ [])
        → IsFinalRun run b next p × w.kind.issued now ((next, w.kind.begun p.1) ∷ p ∷ [])
    pub keeps : (c : List (Point w)) → w.kind.issued next c → w.kind.issued now c

  -- a run has had a turn, which answers so; it failed only where its count rose
  pub record HasRunOn (count : R → ℕ) (m : w.kind.Members) (run turned : R)
      (answer : Result (Moved (Option U)) AppFault) : Type 0 where
    pub turns : IfOk answer (Turns w m run turned)
    pub failed : IsErrOf answer Failed → Rose (count run) (count turned)

  -- what the end of a run of the finalized block leads to: its batch is what the block commits to
  abbrev pub IsFinalBatch : Named B → Option U → U → Type 0
  IsFinalBatch b None batch = ⊥
  IsFinalBatch b (Some u) batch = (batch ≡ u) × Agrees w b u

  -- the run ended without a batch, or with other targets
  abbrev pub FaultsFinal : Named B → Option U → ExecError → Type 0
  FaultsFinal b ended OutOfMemory = Unit {0}
  FaultsFinal b None (FinalizedRejected digest) = digest ≡ b.digest
  FaultsFinal b (Some u) (FinalizedMismatch index expected given) =
      CommitsElse w (record { block = b.block; merkleized = u }) (Targets index expected given)
  FaultsFinal b ended e = ⊥

  -- the run of the finalized block is live under this number
  pub record IsFinalLive (front : Option (Front B R U H)) (j : ℕ) (b : Named B)
      (run : R) : Type 0 where
    pub is : front ≡ front_at b (Running j run)

  module _ (j : ℕ) (b : Named B) (turned : R) where
    -- what a turn's answer leads to: the run goes on, or its batch is there
    abbrev pub SettlesFinal : Result (Moved (Option U)) AppFault
        → (old new : List (Mark B))
        → Option (Front B R U H)
        → Type 0
    SettlesFinal (Ok Pending) old new after = (new ≡ old) × (after ≡ front_at b (Running j turned))
    SettlesFinal (Ok (Done ended)) old new after =
        (batch : U)
        × IsFinalBatch b ended batch
        × (new ≡ old ++ mark.Ended j how.Kept ∷ [])
        × (after ≡ front_at b (Ran batch))
    SettlesFinal (Err fault) old new after = ⊥

  abbrev pub FaultsSettleFinal : Named B → Result (Moved (Option U)) AppFault → ExecError → Type 0
  FaultsSettleFinal b (Ok Pending) e = ⊥
  FaultsSettleFinal b (Ok (Done ended)) e = FaultsFinal b ended e
  FaultsSettleFinal b (Err fault) e = e ≡ error_of_app fault

  module _ (count : R → ℕ) (m : w.kind.Members) (front : Option (Front B R U H)) (j : ℕ) where
    -- What a turn of the finalized block's run leads to. Where it isn't live under this number
    -- nothing changes.
    pub data StepsFinal (old new : List (Mark B)) (after : Option (Front B R U H)) : Type 0 where
      turned : {b : Named B} {run turned : R} {answer : Result (Moved (Option U)) AppFault}
          → IsFinalLive front j b run
          → HasRunOn count m run turned answer
          → SettlesFinal j b turned answer old new after
          → StepsFinal old new after
      not_live : ((b : Named B) (run : R) → IsFinalLive front j b run → ⊥)
          → new ≡ old
          → after ≡ front
          → StepsFinal old new after

    -- the turn failed, or what its answer leads to
    pub data FaultsStepFinal (e : ExecError) : Type 0 where
      run_failed : {b : Named B} {run turned : R} {answer : Result (Moved (Option U)) AppFault}
          → IsFinalLive front j b run
          → HasRunOn count m run turned answer → FaultsSettleFinal b answer e → FaultsStepFinal e

  -- the batch of the finalized block: that of its entry in the cache, where there is one, and else
  -- that of its run
  pub data IsRoot (b : Named B) (cache : List (Cached U)) (front : Option (Front B R U H))
      (batch : U) : Type 0 where
    cached : IsRootOf (anchor_by w.header b) cache batch → IsRoot b cache front batch
    ran : {c : Named B}
        → All (λ e. e.digest ≢ b.digest) cache
        → front ≡ front_at c (Ran batch)
        → IsRoot b cache front batch

  -- The finalized block is the anchor, the cache is cut to its descendants of later rounds, and its
  -- batch is handed out to be applied. What the application read of the states before it is handed
  -- out too.
  pub record Moves (b : Named B) (m : w.kind.Members) (old new : Tables B C I R U)
      (before after : Option (Front B R U H)) (batch : U) (captured : G) : Type 0 where
    pub root : IsRoot b old.cache before batch
    pub cut : IsCutTo (anchor_by w.header b) old.cache new.cache
    pub state : new ≡ record old { anchor = anchor_by w.header b; cache = new.cache }
    pub after_is : after ≡ front_at b Advanced
    pub round : w.round_of (w.context_of b.block) ≡ w.header.round b.block
    pub captures : (p : Point w) → w.kind.point m ≡ Some p
        → w.works.captures captured (w.context_of b.block) b.block p.1

  -- why the anchor doesn't move: memory ran out; or the application failed; or the block has no
  -- states
  pub data FaultsMove (rose : Type 0) (b : Named B) (cache : List (Cached U))
      (front : Option (Front B R U H)) (e : ExecError) : Type 0 where
    no_room : e ≡ OutOfMemory → FaultsMove rose b cache front e
    not_read : e ≡ Application → rose → FaultsMove rose b cache front e
    no_states : e ≡ FinalizedRejected b.digest
        → (HasStates b cache front → ⊥)
        → FaultsMove rose b cache front e

  -- what the application has left to do behind the block, whose states the databases hold, and
  -- those before it were these
  pub record IsLeftBehind (b : Named B) (captured : G) (m : w.kind.Members)
      (hook : Hooked H) : Type 0 where
    pub round : w.round_of (w.context_of b.block) ≡ w.header.round b.block
    pub hooks : (before : w.States) (p : Point w)
        → w.works.captures captured (w.context_of b.block) b.block before
        → w.kind.point m ≡ Some p
        → w.works.hooks hook (hook_of (w.context_of b.block) b.block before p.1) 0
    pub costs : (p : Point w)
        → w.kind.point m ≡ Some p
        → CostsHook (w.works.hook_cost b.block p.1) hook

  -- a hook is live under the next number of a job, or there is none
  abbrev pub HooksOn : Named B
      → Hooked H
      → (old new : Tables B C I R U)
      → (before now : List (Mark B))
      → Option (Front B R U H)
      → Bool
      → Type 0
  HooksOn b hooked.Done old new before now after live =
      (new ≡ old) × (now ≡ before) × (after ≡ front_at b Advanced) × (live ≡ false)
  HooksOn b (hooked.Pending hook) old new before now after live =
      (new ≡ record old { next_job = old.next_job + 1 })
      × IsLeft old.next_job
      × (now ≡ before ++ mark.Started old.next_job job.Hook b.digest ∷ [])
      × (after ≡ front_at b (Hooking old.next_job hook))
      × (live ≡ true)

  -- why no hook is live: memory ran out; or one was left, and no number was left for its job
  abbrev pub FaultsHooksOn : Hooked H → ℕ → ExecError → Type 0
  FaultsHooksOn hooked.Done next_job e = e ≡ OutOfMemory
  FaultsHooksOn (hooked.Pending hook) next_job e =
      (e ≡ OutOfMemory) ⊎ ((e ≡ Exhausted) × (IsLeft next_job → ⊥))

  -- the application has observed the states behind the finalized block
  pub record Observes (b : Named B) (captured : G) (m : w.kind.Members) (old new : Tables B C I R U)
      (before now : List (Mark B)) (after : Option (Front B R U H)) (live : Bool) : Type 0 where
    pub hook : Hooked H
    pub left_is : IsLeftBehind b captured m hook
    pub hooks_on : HooksOn b hook old new before now after live

  -- memory ran out; or the application failed; or it left a hook, and no number was left for its
  -- job
  pub data FaultsObserve (rose : Type 0) (b : Named B) (captured : G) (m : w.kind.Members)
      (next_job : ℕ) (e : ExecError) : Type 0 where
    memory : e ≡ OutOfMemory → FaultsObserve rose b captured m next_job e
    failed : e ≡ Application → rose → FaultsObserve rose b captured m next_job e
    no_job : {hook : H}
        → e ≡ Exhausted
        → IsLeftBehind b captured m (hooked.Pending hook)
        → (IsLeft next_job → ⊥)
        → FaultsObserve rose b captured m next_job e

  -- a hook has had a turn, which answers so; it failed only where its count rose
  pub record HasHooked (count : H → ℕ) (m : w.kind.Members) (hook turned : H)
      (answer : Result (Moved Unit) AppFault) : Type 0 where
    pub goes_on : IfOk answer
        (λ moved. (h : HookOf B C w.States) (n : ℕ) (p : Point w)
        → w.works.hooks (hooked.Pending hook) h n
        → w.kind.point m ≡ Some p
        → p.1 ≡ h.after
        → w.works.hooks (left moved turned) h (n + 1))
    pub costs : IfOk answer
        (λ moved. (h : HookOf B C w.States) (n : ℕ) (p : Point w)
        → w.works.hooks (hooked.Pending hook) h n
        → w.kind.point m ≡ Some p
        → p.1 ≡ h.after
        → Costs (w.works.hook_cost h.block h.after) moved n)
    pub failed : IsErrOf answer Failed → Rose (count hook) (count turned)

  -- the hook behind the finalized block is live under this number
  pub record IsHookLive (front : Option (Front B R U H)) (j : ℕ) (b : Named B)
      (hook : H) : Type 0 where
    pub is : front ≡ front_at b (Hooking j hook)

  module _ (j : ℕ) (b : Named B) (turned : H) where
    -- what a turn's answer leads to: the hook goes on, or has ended
    abbrev pub SettlesHook : Result (Moved Unit) AppFault
        → (old new : List (Mark B))
        → Option (Front B R U H)
        → Type 0
    SettlesHook (Ok Pending) old new after = (new ≡ old) × (after ≡ front_at b (Hooking j turned))
    SettlesHook (Ok (Done ended)) old new after =
        (new ≡ old ++ mark.Ended j how.Hooked ∷ []) × (after ≡ front_at b Advanced)
    SettlesHook (Err fault) old new after = ⊥

  abbrev pub FaultsSettleHook : Result (Moved Unit) AppFault → ExecError → Type 0
  FaultsSettleHook (Ok Pending) e = ⊥
  FaultsSettleHook (Ok (Done ended)) e = e ≡ OutOfMemory
  FaultsSettleHook (Err fault) e = e ≡ error_of_app fault

  module _ (count : H → ℕ) (m : w.kind.Members) (front : Option (Front B R U H)) (j : ℕ) where
    -- What a turn of the hook leads to. Where it isn't live under this number nothing changes.
    pub data TurnsHook (old new : List (Mark B)) (after : Option (Front B R U H)) : Type 0 where
      hook_turned : {b : Named B} {hook now : H} {answer : Result (Moved Unit) AppFault}
          → IsHookLive front j b hook
          → HasHooked count m hook now answer
          → SettlesHook j b now answer old new after
          → TurnsHook old new after
      unhooked : ((b : Named B) (hook : H) → IsHookLive front j b hook → ⊥)
          → new ≡ old
          → after ≡ front
          → TurnsHook old new after

    -- the turn failed, or what its answer leads to
    pub data FaultsHook (e : ExecError) : Type 0 where
      hook_failed : {b : Named B} {hook now : H} {answer : Result (Moved Unit) AppFault}
          → IsHookLive front j b hook
          → HasHooked count m hook now answer → FaultsSettleHook answer e → FaultsHook e

  -- What a turn of a run of a job leads to: of a candidate, or of the finalized block.
  pub data Completes (count : R → ℕ) (m : Moment w) (front : Option (Front B R U H)) (j : ℕ)
      (now : Moment w) (after : Option (Front B R U H)) : Type 0 where
    candidate : Steps w count m j now → after ≡ front → Completes count m front j now after
    finalized : at m.state.runs j ≡ None
        → StepsFinal count m.members front j m.marks now.marks after
        → now ≡ record m { marks = now.marks }
        → Completes count m front j now after

  pub data FaultsComplete (rose : Type 0) (count : R → ℕ) (m : Moment w)
      (front : Option (Front B R U H)) (j : ℕ) (e : ExecError) : Type 0 where
    of_candidate : FaultsStep w rose count m j e → FaultsComplete rose count m front j e
    of_finalized : at m.state.runs j ≡ None
        → FaultsStepFinal count m.members front j e
        → FaultsComplete rose count m front j e

  -- What an answer of the last turn of a job's run leads to. Where the job isn't live nothing
  -- changes.
  pub data SettlesRun (m : Moment w) (front : Option (Front B R U H)) (j : ℕ)
      (answer : Result (Moved (Option U)) AppFault) (now : Moment w)
      (after : Option (Front B R U H)) : Type 0 where
    candidate_settles : IsSome (at m.state.runs j)
        → SettlesBy w m j answer now
        → after ≡ front
        → SettlesRun m front j answer now after
    finalized_settles : {b : Named B} {run : R}
        → at m.state.runs j ≡ None
        → IsFinalLive front j b run
        → SettlesFinal j b run answer m.marks now.marks after
        → now ≡ record m { marks = now.marks } → SettlesRun m front j answer now after
    dead : at m.state.runs j ≡ None
        → ((b : Named B) (run : R) → IsFinalLive front j b run → ⊥)
        → now ≡ m
        → after ≡ front
        → SettlesRun m front j answer now after

  pub data FaultsSettleRun (rose : Type 0) (m : Moment w) (front : Option (Front B R U H)) (j : ℕ)
      (answer : Result (Moved (Option U)) AppFault) (e : ExecError) : Type 0 where
    candidate_refused : IsSome (at m.state.runs j)
        → FaultsAnswer w rose m j answer e
        → FaultsSettleRun rose m front j answer e
    finalized_refused : {b : Named B} {run : R}
        → IsFinalLive front j b run
        → FaultsSettleFinal b answer e
        → FaultsSettleRun rose m front j answer e
