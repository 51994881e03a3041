-- After each rule of the loop a live candidate run was live before, or its number was drawn since; and where nothing pauses a
-- request that waits waited before, or it was found that it has to.
use Rattle.std.proofs.Common.{◌≡◌, ◌≤◌, ◌+◌, ◌++◌, ◌⊎◌, inl, inr, ℕ, true, false, List, [], ◌∷◌, map, All, Option, sym, ap, ◌∙◌, subst, append-nil, arith}
use Rattle.std.proofs.lemmas.List.Elements.{All-nil, All-cons}
use Rattle.stateful_base.specs.Names.{Named}
use Rattle.stateful_base.specs.declared.anchor.Anchor.{Anchor}
use Rattle.stateful_db.specs.declared.application.Hooked.{Hooked}
use Rattle.stateful_db.specs.declared.application.Hooked.TheVariants as hooked
use Rattle.stateful_durability.specs.Durability.{receipts_up_to}
use Rattle.stateful_history.specs.declared.mark.JobKind.TheVariants as job
use Rattle.stateful_history.specs.declared.mark.Mark.{Mark}
use Rattle.stateful_history.specs.declared.mark.Mark.TheVariants as mark
use Rattle.stateful_exec_cache.specs.declared.cache.Cached.{Cached}
use Rattle.stateful_table.specs.Table.{without}
use Rattle.stateful_exec_model.specs.Finalizing.{HooksOn}
use Rattle.stateful_exec_walk.specs.Request.{ticket_by}
use Rattle.stateful_exec_tables.specs.Tables.{requested}
use Rattle.stateful_exec_walk.specs.Walk.{IsPrepared}
use Rattle.stateful_exec_model.specs.Workings.{Workings}
use Rattle.stateful_exec_pause.specs.declared.pause.Pause.TheVariants.{Free, Finalizing}
use Rattle.stateful_exec_walk.specs.declared.request.Request.{Request}
use Rattle.stateful_exec_tables.specs.declared.state.Tables.{Tables}
use Rattle.stateful_exec_walk.specs.declared.walk.Acquired.TheVariants as acquired
use Rattle.stateful_exec_laws.specs.Requesting.{first_of}
use Rattle.stateful_exec_laws.proofs.earned.Carried.{IsMild}
use Rattle.stateful_exec_laws.proofs.earned.Left.{LeavesBehind-acquires}
use Rattle.stateful_loop_model.specs.Moments.{Moment, inner, with_loop}
use Rattle.stateful_loop_model.specs.Rules as rules
use Rattle.stateful_loop_model.specs.Rules.{acknowledged, IsFinalizing, HasStates, AppliesBlock, Schedules, Takes, of_action, of_message, Builds, BeginsBarrier, BeginsFinalization, DoesMessage, ObservesBlock, Rule}
use Rattle.stateful_loop_model.specs.declared.barriers.Active.{Active}
use Rattle.stateful_loop_model.specs.declared.message.Message.{Message}
use Rattle.stateful_loop_model.specs.declared.tables.Finalizing.{Finalizing as Finalizes}
use Rattle.stateful_loop_model.specs.declared.tables.Processing.{Processing}
use Rattle.stateful_loop_laws.proofs.carried.RunsCarried.{OfRequests, Carries, carries_still, carries_acquires, carries_resumes, waiting_resumed}

one_mild : {B : Type 0} (x : Mark B) → IsMild x → All (λ y. IsMild y) (x ∷ [])
one_mild x mild = All-cons (λ y. IsMild y) x [] mild (All-nil (λ y. IsMild y))

acknowledged_mild : {B : Type 0} (receipts : List (ℕ × ℕ)) → All (λ (x : Mark B). IsMild x) (map acknowledged receipts)
acknowledged_mild {B} [] = All-nil (λ (x : Mark B). IsMild x)
acknowledged_mild {B} (receipt ∷ receipts) =
    All-cons (λ (x : Mark B). IsMild x) (acknowledged receipt) (map acknowledged receipts) tt (acknowledged_mild receipts)

completed_mild : {B : Type 0} (active : Active) (receipts : List (ℕ × ℕ))
    → All (λ (x : Mark B). IsMild x) (mark.BarrierDone active.number active.height true ∷ map acknowledged receipts)
completed_mild {B} active receipts = All-cons (λ (x : Mark B). IsMild x) (mark.BarrierDone active.number active.height true)
    (map acknowledged receipts) tt (acknowledged_mild receipts)

-- a finalization begins, and fetches are withdrawn: runs stay, and execution pauses
pub record BeginsAt {B C I P R D H G U : Type 0} (w : Workings B C I P R D H G U) (m now : Moment w) : Type 0 where
  pub ticket : ℕ
  pub block : Named B
  pub fetches : List ℕ
  pub marks_are : now.marks ≡ m.marks ++ mark.Began ticket block ∷ map (λ f. mark.Withdrawn f) fetches
  pub runs : now.execution.state.runs ≡ m.execution.state.runs
  pub paused : now.execution.state.pause ≡ Free → ⊥

module _ {B C I P R D H G U : Type 0} (w : Workings B C I P R D H G U) (first : ℕ) (OfRun OfWaiting : ℕ → Named B → Type 0) where
  -- It is carried on; and where nothing pauses behind it, nothing did before, or it holds of each request that waits.
  pub record CarriesAt (m now : Moment w) : Type 0 where
    pub carries : Carries w first OfRun OfWaiting (inner w m) (inner w now)
    pub freed : now.execution.state.pause ≡ Free
        → (m.execution.state.pause ≡ Free) ⊎ OfRequests w first OfRun OfWaiting now.execution.state.requests

  -- so it is after a rule; or the rule begins a finalization, or applies the block of one
  pub data RuleCarries (m now : Moment w) : Type 0 where
    carried : CarriesAt m now → RuleCarries m now
    begun : BeginsAt w m now → RuleCarries m now
    applied : (f : Finalizes B G) → IsFinalizing w m f → HasStates w m f.block → AppliesBlock w f m now → RuleCarries m now

  module _ (m now : Moment w) where
    abbrev old : Tables B C I R U
    old = m.execution.state

    abbrev new : Tables B C I R U
    new = now.execution.state

    -- where the tables are as they were, but for numbers and what is queued
    still : (more : List (Mark B)) → now.marks ≡ m.marks ++ more → All (λ x. IsMild x) more → new.anchor ≡ old.anchor
        → old.next_job ≤ new.next_job → new.runs ≡ old.runs → new.requests ≡ old.requests → new.pause ≡ old.pause → CarriesAt m now
    still more is mild anchor_is drawn runs_are requests_are pause_is = record {
      carries = carries_still w first OfRun OfWaiting (inner w m) (inner w now) more is mild anchor_is drawn runs_are
          (λ h. subst (λ es. OfRequests w first OfRun OfWaiting es) (sym requests_are) h);
      freed = λ free. inl (sym pause_is ∙ free);
    }

    -- where they are as they were, and some marks are made
    marked : now.execution ≡ m.execution → (more : List (Mark B)) → now.marks ≡ m.marks ++ more → All (λ x. IsMild x) more → CarriesAt m now
    marked same more is mild =
        still more is mild (ap (λ e. e.state.anchor) same)
        (let jobs : new.next_job ≡ old.next_job = ap (λ e. e.state.next_job) same in omega (arith, jobs))
        (ap (λ e. e.state.runs) same) (ap (λ e. e.state.requests) same) (ap (λ e. e.state.pause) same)

    -- or none
    unmarked : now.execution ≡ m.execution → now.marks ≡ m.marks → CarriesAt m now
    unmarked same is = marked same [] (is ∙ sym (append-nil m.marks)) (All-nil (λ x. IsMild x))

  -- the loop has no part in it
  looped : (m : Moment w) (loop : Processing B C I G) (now : Moment w) → CarriesAt (with_loop w m loop) now ⊎ BeginsAt w (with_loop w m loop) now
      → RuleCarries m now
  looped m loop now (inl c) = carried (record { carries = c.carries; freed = c.freed })
  looped m loop now (inr b) = begun (record {
    ticket = b.ticket;
    block = b.block;
    fetches = b.fetches;
    marks_are = b.marks_are;
    runs = b.runs;
    paused = b.paused;
  })

  begins_barrier : (m now : Moment w) → BeginsBarrier w m now → CarriesAt m now
  begins_barrier m now r = marked m now (ap (λ (n : Moment w). n.execution) r.becomes) _ (ap (λ (n : Moment w). n.marks) r.becomes)
      (one_mild (mark.BarrierBegun m.loop.next_barrier (record { 0 = m.loop.durability.applied })) tt)

  builds : (provider : P) (t : ℕ) (m now : Moment w) → Builds w provider t m now → CarriesAt m now
  builds provider t m now (rules.starts {state = state} s is) =
      still m now _ (ap (λ (n : Moment w). n.marks) is)
      (one_mild (mark.Started m.execution.state.next_job job.Build s.proposal.ancestry.first.digest) tt)
      (from (λ v. v.anchor))
      (let jobs : now.execution.state.next_job ≡ m.execution.state.next_job + 1 = from (λ v. v.next_job) in omega (arith, jobs))
      (from (λ v. v.runs)) (from (λ v. v.requests)) (from (λ v. v.pause))
    where
      from : {X : Type 0} (f : Tables B C I R U → X) → f now.execution.state ≡ f (record m.execution.state {
        queued = without m.execution.state.queued t;
        next_job = m.execution.state.next_job + 1;
      })
      from f = ap (λ (n : Moment w). f n.execution.state) is ∙ ap f s.state
  builds provider t m now (rules.declines off is) =
      still m now _ (ap (λ (n : Moment w). n.marks) is) (one_mild (mark.Declined t) tt) (ap (λ (n : Moment w). n.execution.state.anchor) is)
      (let jobs : now.execution.state.next_job ≡ m.execution.state.next_job = ap (λ (n : Moment w). n.execution.state.next_job) is in
      omega (arith, jobs))
      (ap (λ (n : Moment w). n.execution.state.runs) is) (ap (λ (n : Moment w). n.execution.state.requests) is)
      (ap (λ (n : Moment w). n.execution.state.pause) is)

  -- the application has observed the states behind the block
  observes : (f : Finalizes B G) (captured : G) (m now : Moment w) → ObservesBlock w f captured m now → CarriesAt m now
  observes f captured m now r = by r.observes.hook r.observes.hooks_on
    where
      by : (hook : Hooked H) → HooksOn w f.block hook m.execution.state r.state m.marks r.marks r.front r.live → CarriesAt m now
      by hooked.Done on = still m now [] (ap (λ (n : Moment w). n.marks) r.becomes ∙ on.1 ∙ sym (append-nil m.marks)) (All-nil (λ x. IsMild x))
          (from (λ v. v.anchor))
          (let jobs : now.execution.state.next_job ≡ m.execution.state.next_job = from (λ v. v.next_job) in omega (arith, jobs))
          (from (λ v. v.runs)) (from (λ v. v.requests)) (from (λ v. v.pause))
        where
          from : {X : Type 0} (g : Tables B C I R U → X) → g now.execution.state ≡ g m.execution.state
          from g = ap (λ (n : Moment w). g n.execution.state) r.becomes ∙ ap g on.0
      by (hooked.Pending hook) on =
          still m now _ (ap (λ (n : Moment w). n.marks) r.becomes ∙ on.2)
          (one_mild (mark.Started m.execution.state.next_job job.Hook f.block.digest) tt)
          (from (λ v. v.anchor))
          (let jobs : now.execution.state.next_job ≡ m.execution.state.next_job + 1 = from (λ v. v.next_job) in omega (arith, jobs))
          (from (λ v. v.runs)) (from (λ v. v.requests)) (from (λ v. v.pause))
        where
          from : {X : Type 0} (g : Tables B C I R U → X)
              → g now.execution.state ≡ g (record m.execution.state { next_job = m.execution.state.next_job + 1 })
          from g = ap (λ (n : Moment w). g n.execution.state) r.becomes ∙ ap g on.0

  -- a finalization begins
  begins_finalization : (t : ℕ) (b : Named B) (m now : Moment w) → BeginsFinalization w t b m now → BeginsAt w m now
  begins_finalization t b m now r = record {
    ticket = t;
    block = b;
    fetches = r.pauses.fetches;
    marks_are = ap (λ (n : Moment w). n.marks) r.becomes ∙ ap (λ (ms : List (Mark B)). m.marks ++ mark.Began t b ∷ ms) r.pauses.marks_are;
    runs = ap (λ (n : Moment w). n.execution.state.runs) r.becomes ∙ ap (λ (v : Tables B C I R U). v.runs) r.pauses.state;
    paused = λ free.
        let paused : now.execution.state.pause ≡ Finalizing r.boundary =
        ap (λ (n : Moment w). n.execution.state.pause) r.becomes ∙ ap (λ (v : Tables B C I R U). v.pause) r.pauses.state in
        let no : Finalizing r.boundary ≡ Free = sym paused ∙ free in absurd (cc);
  }

  module _ (stored_now : ℕ → Option (Named B)) (started : (j : ℕ) (b : Named B) → first ≤ j → OfRun j b) (anchor : Anchor)
      (must : (t : ℕ) (request : Request B C I) (more : List (Named B)) (cache : List (Cached U))
      → IsPrepared w.header anchor cache stored_now request more acquired.Waits → OfWaiting t (first_of request)) where
    -- a request acquires what it needs
    schedules : (request : Request B C I) (m now : Moment w) → m.execution.state.anchor ≡ anchor → Schedules w stored_now request m now
        → CarriesAt m now
    schedules request m now here r = subst (λ (n : Moment w). CarriesAt m n) (sym r.becomes) (record {
      carries = carries_acquires w first OfRun OfWaiting started stored_now anchor must (inner w m) r.then (ticket_by request) (requested request)
          here r.acquires;
      freed = λ free. inl (sym
          (LeavesBehind-acquires w stored_now (inner w m) r.then (ticket_by request) (requested request) r.acquires).left.pause ∙ free);
    })

    -- what becomes of a message
    does : (m now : Moment w) (x : Message B C I) → m.execution.state.anchor ≡ anchor → DoesMessage w stored_now m now x
        → CarriesAt m now ⊎ BeginsAt w m now
    does m now x here (rules.schedules {request = request} r) = inl (schedules request m now here r)
    does m now x here (rules.answers {t = t} is) =
        inl (marked m now (ap (λ (n : Moment w). n.execution) is) _ (ap (λ (n : Moment w). n.marks) is) (one_mild (mark.Databases t) tt))
    does m now x here (rules.acknowledges {t = t} {b = b} again durable is) =
        inl (marked m now (ap (λ (n : Moment w). n.execution) is) _ (ap (λ (n : Moment w). n.marks) is)
        (one_mild (acknowledged (w.header.height b.block, t)) tt))
    does m now x here (rules.holds {t = t} {b = b} again later is) =
        inl (unmarked m now (ap (λ (n : Moment w). n.execution) is) (ap (λ (n : Moment w). n.marks) is))
    does m now x here (rules.begins {t = t} {b = b} high r) = inr (begins_finalization t b m now r)

    -- So it is after each rule.
    pub rule_carries : (provider : P) (m now : Moment w) → m.execution.state.anchor ≡ anchor → Rule w stored_now provider m now → RuleCarries m now
    rule_carries provider m now here (rules.collects {t = t} up c) = carried
        (still m now [] (ap (λ (n : Moment w). n.marks) c.becomes ∙ sym (append-nil m.marks)) (All-nil (λ x. IsMild x))
        (ap (λ (n : Moment w). n.execution.state.anchor) c.becomes)
        (let jobs : now.execution.state.next_job ≡ m.execution.state.next_job = ap (λ (n : Moment w). n.execution.state.next_job) c.becomes in
        omega (arith, jobs))
        (ap (λ (n : Moment w). n.execution.state.runs) c.becomes) (ap (λ (n : Moment w). n.execution.state.requests) c.becomes)
        (ap (λ (n : Moment w). n.execution.state.pause) c.becomes))
    rule_carries provider m now here (rules.schedules {request = request} {rest = rest} collected some is verification r) =
        looped m (record m.loop { queue = rest }) now
        (inl (schedules request (with_loop w m (record m.loop { queue = rest })) now here r))
    rule_carries provider m now here (rules.puts_off {x = x} {rest = rest} collected some is other become) =
        carried (unmarked m now (ap (λ (n : Moment w). n.execution) become) (ap (λ (n : Moment w). n.marks) become))
    rule_carries provider m now here (rules.runs {f = f} fronts begun_at awaits uncached r) = carried
        (still m now _ (ap (λ (n : Moment w). n.marks) r.becomes)
        (one_mild (mark.Started m.execution.state.next_job job.Finalized f.block.digest) tt) (from (λ v. v.anchor))
        (let jobs : now.execution.state.next_job ≡ m.execution.state.next_job + 1 = from (λ v. v.next_job) in omega (arith, jobs))
        (from (λ v. v.runs)) (from (λ v. v.requests)) (from (λ v. v.pause)))
      where
        from : {X : Type 0} (g : Tables B C I R U → X)
            → g now.execution.state ≡ g (record m.execution.state { next_job = m.execution.state.next_job + 1 })
        from g = ap (λ (n : Moment w). g n.execution.state) r.becomes ∙ ap g r.runs.state
    rule_carries provider m now here (rules.applies {f = f} fronts captured states r) = applied f fronts states r
    rule_carries provider m now here (rules.covers fronts advanced captured needed r) = carried (begins_barrier m now r)
    rule_carries provider m now here (rules.observes {f = f} {captured = captured} fronts advanced is covered r) =
        carried (observes f captured m now r)
    rule_carries provider m now here (rules.ends {f = f} fronts advanced captured r) = carried
        (subst (λ (n : Moment w). CarriesAt m n) (sym r.becomes) (record {
          carries = carries_resumes w first OfRun OfWaiting started stored_now anchor must (inner w m) r.then here r.resumes;
          freed = λ free. inr (waiting_resumed w first OfRun OfWaiting started stored_now anchor must (inner w m) r.then here r.resumes);
        }))
    rule_carries provider m now here (rules.breaks {active = active} idle is become) = carried
        (marked m now (ap (λ (n : Moment w). n.execution) become) _ (ap (λ (n : Moment w). n.marks) become)
        (one_mild (mark.BarrierDone active.number active.height false) tt))
    rule_carries provider m now here (rules.completes {active = active} idle whole is r) = carried
        (marked m now (ap (λ (n : Moment w). n.execution) r.becomes) _ (ap (λ (n : Moment w). n.marks) r.becomes)
        (completed_mild active (receipts_up_to active.height.0 m.loop.durability.held)))
    rule_carries provider m now here (rules.begins idle whole unflushed needed r) = carried (begins_barrier m now r)
    rule_carries provider m now here (rules.builds {t = t} {rest = rest} calm is r) =
        looped m (record m.loop { actions = rest }) now (inl (builds provider t (with_loop w m (record m.loop { actions = rest })) now r))
    rule_carries provider m now here (rules.takes {x = x} {mid = mid} calm takes done) = by takes
      where
        by : Takes w x m mid → RuleCarries m now
        by (of_action {rest = rest} is become) = looped m (record m.loop { actions = rest }) now
            (does (with_loop w m (record m.loop { actions = rest })) now x here
            (subst (λ (n : Moment w). DoesMessage w stored_now n now x) become done))
        by (of_message {rest = rest} none is become) = looped m (record m.loop { queue = rest }) now
            (does (with_loop w m (record m.loop { queue = rest })) now x here
            (subst (λ (n : Moment w). DoesMessage w stored_now n now x) become done))
