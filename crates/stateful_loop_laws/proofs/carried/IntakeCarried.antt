-- After each event that is taken in a live candidate run was live before, or its number was drawn since; and where nothing pauses a
-- request that waits waited before, or it was found that it has to.
use Rattle.std.proofs.Common.{◌≡◌, ◌≢◌, ◌≤◌, ◌+◌, ◌++◌, ◌⊎◌, inl, inr, ℕ, List, [], ◌∷◌, All, Option, None, Result, Ok, Err, refl, sym, ap, ◌∙◌, subst, append-nil, arith}
use Rattle.std.proofs.lemmas.List.Elements.{All-nil, All-cons}
use Rattle.stateful_base.specs.Names.{Named}
use Rattle.stateful_base.specs.declared.anchor.Anchor.{Anchor}
use Rattle.stateful_base.specs.declared.outcome.Handoff.{Handoff}
use Rattle.stateful_base.specs.declared.outcome.Handoff.TheVariants.{Wait, Vote, Stage}
use Rattle.stateful_base.specs.declared.outcome.Moved.{Moved}
use Rattle.stateful_base.specs.declared.outcome.Moved.TheVariants.{Pending, Done}
use Rattle.stateful_db.specs.declared.application.AppFault.{AppFault}
use Rattle.stateful_db.specs.declared.application.ProposedBlock.{ProposedBlock}
use Rattle.stateful_history.specs.declared.event.Event.{Event}
use Rattle.stateful_history.specs.declared.event.Event.TheVariants as event
use Rattle.stateful_history.specs.declared.mark.Decision.{Decision}
use Rattle.stateful_history.specs.declared.mark.Decision.TheVariants as decision
use Rattle.stateful_history.specs.declared.mark.How.TheVariants.{Kept, Nothing, Hooked}
use Rattle.stateful_history.specs.declared.mark.Mark.{Mark}
use Rattle.stateful_history.specs.declared.mark.Mark.TheVariants.{Ended, Built, Answered, Declined}
use Rattle.stateful_exec_cache.specs.declared.cache.Cached.{Cached}
use Rattle.stateful_exec_model.specs.Built.{decided, TurnsBuild, other, goes_on, ends, Gives, EndsBuild, GivesUp, building, asking}
use Rattle.stateful_exec_tables.specs.Fetching.{Fetches}
use Rattle.stateful_exec_tables.specs.Cancelling.{Cancels}
use Rattle.stateful_exec_tables.specs.Cancelling.{idle, withdraws, leaves, ends as ends_run, unqueued}
use Rattle.stateful_exec_model.specs.Finalizing.{SettlesFinal, StepsFinal, turned, not_live, SettlesHook, TurnsHook, hook_turned, unhooked, candidate, finalized}
use Rattle.stateful_exec_model.specs.Finalizing.{Completes}
use Rattle.stateful_exec_model.specs.Moments as exec
use Rattle.stateful_exec_walk.specs.Walk.{IsPrepared}
use Rattle.stateful_exec_model.specs.Workings.{Workings}
use Rattle.stateful_exec_model.specs.declared.building.Building.{Building}
use Rattle.stateful_exec_model.specs.declared.front.Front.{Front}
use Rattle.stateful_exec_pause.specs.declared.pause.Pause.{Pause}
use Rattle.stateful_exec_pause.specs.declared.pause.Pause.TheVariants.{Free}
use Rattle.stateful_exec_walk.specs.declared.request.Request.{Request}
use Rattle.stateful_exec_tables.specs.declared.state.Tables.{Tables}
use Rattle.stateful_exec_tables.specs.declared.tables.LiveRun.{LiveRun}
use Rattle.stateful_exec_tables.specs.declared.tables.Requested.{Requested}
use Rattle.stateful_exec_walk.specs.declared.walk.Acquired.TheVariants as acquired
use Rattle.stateful_exec_laws.specs.Requesting.{first_of}
use Rattle.stateful_exec_laws.proofs.earned.Carried.{IsMild}
use Rattle.stateful_exec_laws.proofs.runs.Removing.{none_at}
use Rattle.stateful_loop_model.specs.Intake as intake
use Rattle.stateful_loop_model.specs.Intake.{Counts, Builds, Hooks, TurnsJob, TakesIn}
use Rattle.stateful_loop_model.specs.Moments.{Moment, inner, with_inner}
use Rattle.stateful_loop_laws.proofs.carried.RunsCarried.{OfRuns, OfRequests, CarriesFrom, OfTurned, carries_same, carries_steps, carries_gives_up, carries_fetched}
use Rattle.stateful_loop_laws.proofs.carried.SettledIntake.{crossed_free, pause_fetched}
use Rattle.stateful_loop_laws.proofs.execution.StepsLeave.{pause-steps}

one_mild : {B : Type 0} (x : Mark B) → IsMild x → All (λ y. IsMild y) (x ∷ [])
one_mild x mild = All-cons (λ y. IsMild y) x [] mild (All-nil (λ y. IsMild y))

built_mild : {B : Type 0} (j t : ℕ) (c : Named B) (d : Decision) → All (λ (x : Mark B). IsMild x) (Built j t c ∷ Answered t d c ∷ [])
built_mild {B} j t c d = All-cons (λ (x : Mark B). IsMild x) (Built j t c) (Answered t d c ∷ []) tt (one_mild (Answered t d c) tt)

-- the event gives no job a turn
abbrev pub IsNoTurn : {B C I : Type 0} → Event B C I → Type 0
IsNoTurn (event.Turn j) = ⊥
IsNoTurn e = Unit {0}

-- a cancel leaves the pause
pause_cancels : {B C I R U : Type 0} (old new : Tables B C I R U) (t : ℕ) (marks : List (Mark B)) → Cancels old new t marks → new.pause ≡ old.pause
pause_cancels old new t marks (idle r there is new_is marks_is) = ap (λ v. v.pause) new_is
pause_cancels old new t marks (withdraws r f fetches new_is marks_is) = ap (λ v. v.pause) new_is
pause_cancels old new t marks (leaves r j path there executing others new_is marks_is) = ap (λ v. v.pause) new_is
pause_cancels old new t marks (ends_run r j path there executing last new_is marks_is) = ap (λ v. v.pause) new_is
pause_cancels old new t marks (unqueued gone new_is marks_is) = ap (λ v. v.pause) new_is

pause_gives_up : {B C I R U D : Type 0} (old new : Tables B C I R U) (before now : Option (Building B C D)) (t : ℕ) (marks : List (Mark B))
    → GivesUp old new before now t marks → new.pause ≡ old.pause
pause_gives_up old new before now t marks (building own same gone is) = ap (λ v. v.pause) same
pause_gives_up old new before now t marks (asking none c same) = pause_cancels old new t marks c

module _ {B C I P R D H G U : Type 0} (w : Workings B C I P R D H G U) (first : ℕ) (OfRun OfWaiting : ℕ → Named B → Type 0) where
  -- It is carried on from what held before; and where nothing pauses behind it, nothing did before.
  pub record CarriesIn (Before : Type 0) (m now : Moment w) : Type 0 where
    pub carries : CarriesFrom w first OfRun OfWaiting Before (inner w m) (inner w now)
    pub freed : now.execution.state.pause ≡ Free → m.execution.state.pause ≡ Free

  module _ (m now : Moment w) where
    -- where execution is as it was, and no mark is made
    same : now.execution ≡ m.execution → now.marks ≡ m.marks → CarriesIn (OfRuns w first OfRun OfWaiting m.execution.state.runs) m now
    same execution is = record {
      carries = carries_same w first OfRun OfWaiting (inner w m) (inner w now) is (ap (λ e. e.state.anchor) execution)
          (let jobs : now.execution.state.next_job ≡ m.execution.state.next_job = ap (λ e. e.state.next_job) execution in omega (arith, jobs))
          (ap (λ e. e.state.runs) execution)
          (λ h. subst (λ e. OfRequests w first OfRun OfWaiting e.state.requests) (sym execution) h);
      freed = λ free. ap (λ e. e.state.pause) (sym execution) ∙ free;
    }

  -- where a job is turned that is of no candidate run
  module _ (m : Moment w) (j : ℕ) (absent : All (λ (e : ℕ × LiveRun B R). e.0 ≢ j) m.execution.state.runs) where
    abbrev Turns_to : exec.Moment w → Type 0
    Turns_to then = CarriesFrom w first OfRun OfWaiting (OfTurned w first OfRun OfWaiting (inner w m) j) (inner w m) then

    elsewhere : (then : exec.Moment w) (more : List (Mark B)) → then.marks ≡ m.marks ++ more → All (λ x. IsMild x) more
        → then.state.anchor ≡ m.execution.state.anchor → then.state.next_job ≡ m.execution.state.next_job
        → then.state.runs ≡ m.execution.state.runs → then.state.requests ≡ m.execution.state.requests → Turns_to then
    elsewhere then more is mild anchor_is jobs runs_are requests_are = record {
      more = more;
      marks_are = is;
      mild = mild;
      anchor_is = anchor_is;
      drawn = omega (arith, jobs);
      runs = λ le h. subst (λ (rs : List (ℕ × LiveRun B R)). OfRuns w first OfRun OfWaiting rs) (sym runs_are) (λ k d l. h.0 k d l (absent k d l));
      waiting = λ h. subst (λ (es : List (ℕ × Requested B C I)). OfRequests w first OfRun OfWaiting es) (sym requests_are) h;
    }

    -- where the tables are as they were
    marked : (marks more : List (Mark B)) → marks ≡ m.marks ++ more → All (λ x. IsMild x) more → Turns_to (record (inner w m) { marks = marks })
    marked marks more is mild = elsewhere (record (inner w m) { marks = marks }) more is mild refl refl refl refl

    unmarked : (marks : List (Mark B)) → marks ≡ m.marks → Turns_to (record (inner w m) { marks = marks })
    unmarked marks is = marked marks [] (is ∙ sym (append-nil m.marks)) (All-nil (λ x. IsMild x))

    gave : (b : Building B C D) (x : ProposedBlock B U) (handed : Decision) (then : exec.Moment w) → Gives w b (inner w m) x handed then
        → Turns_to then × (then.state.pause ≡ m.execution.state.pause)
    gave b x handed then g = (
      elsewhere then _ (ap (λ (n : exec.Moment w). n.marks) g.becomes) (built_mild b.job b.ticket g.block (decided b.kind handed))
          (ap (λ (n : exec.Moment w). n.state.anchor) g.becomes) (ap (λ (n : exec.Moment w). n.state.next_job) g.becomes)
          (ap (λ (n : exec.Moment w). n.state.runs) g.becomes) (ap (λ (n : exec.Moment w). n.state.requests) g.becomes),
      ap (λ (n : exec.Moment w). n.state.pause) g.becomes,
    )

    built : (b : Building B C D) (given : Handoff (ProposedBlock B U)) (then : exec.Moment w) → EndsBuild w b (inner w m) given then
        → Turns_to then × (then.state.pause ≡ m.execution.state.pause)
    built b Wait then is = (
      elsewhere then _ (ap (λ (n : exec.Moment w). n.marks) is)
          (All-cons (λ x. IsMild x) (Ended b.job Nothing) (Declined b.ticket ∷ []) tt (one_mild (Declined b.ticket) tt))
          (ap (λ (n : exec.Moment w). n.state.anchor) is) (ap (λ (n : exec.Moment w). n.state.next_job) is)
          (ap (λ (n : exec.Moment w). n.state.runs) is) (ap (λ (n : exec.Moment w). n.state.requests) is),
      ap (λ (n : exec.Moment w). n.state.pause) is,
    )
    built b (Vote x) then g = gave b x decision.Vote then g
    built b (Stage x) then g = gave b x decision.Stage then g

    builds : (count : D → ℕ) (then : exec.Moment w) (next : Option (Building B C D))
        → TurnsBuild w count (inner w m) m.execution.build j then next → Turns_to then × (then.state.pause ≡ m.execution.state.pause)
    builds count then next (other none_live is stays) =
        subst (λ (n : exec.Moment w). Turns_to n × (n.state.pause ≡ m.execution.state.pause)) (sym is) (unmarked m.marks refl, refl)
    builds count then next (goes_on {b = b} {turned = turned_to} live had is becomes) =
        subst (λ (n : exec.Moment w). Turns_to n × (n.state.pause ≡ m.execution.state.pause)) (sym is) (unmarked m.marks refl, refl)
    builds count then next (ends {b = b} {turned = turned_to} {given = given} live had is gone) = built (record b { build = turned_to }) given then is

    hooks : (count : H → ℕ) (marks : List (Mark B)) (next : Option (Front B R U H))
        → TurnsHook w count m.members m.execution.front j m.marks marks next → Turns_to (record (inner w m) { marks = marks })
    hooks count marks next (unhooked off is stays) = unmarked marks is
    hooks count marks next (hook_turned {b = b} {now = now} {answer = answer} live had settles) = by answer settles
      where
        by : (answer : Result (Moved Unit) AppFault) → SettlesHook w j b now answer m.marks marks next
            → Turns_to (record (inner w m) { marks = marks })
        by (Ok Pending) is = unmarked marks is.0
        by (Ok (Done over)) is = marked marks (Ended j Hooked ∷ []) is.0 (one_mild (Ended j Hooked) tt)
        by (Err fault) is = absurd is

    finals : (count : R → ℕ) (marks : List (Mark B)) (next : Option (Front B R U H))
        → StepsFinal w count m.members m.execution.front j m.marks marks next → Turns_to (record (inner w m) { marks = marks })
    finals count marks next (not_live off is stays) = unmarked marks is
    finals count marks next (turned {b = b} {turned = now} {answer = answer} live had settles) = by answer settles
      where
        by : (answer : Result (Moved (Option U)) AppFault) → SettlesFinal w j b now answer m.marks marks next
            → Turns_to (record (inner w m) { marks = marks })
        by (Ok Pending) is = unmarked marks is.0
        by (Ok (Done over)) is = marked marks (Ended j Kept ∷ []) is.2 (one_mild (Ended j Kept) tt)
        by (Err fault) is = absurd is

  module _ (started : (j : ℕ) (b : Named B) → first ≤ j → OfRun j b) where
    -- After a turn of a job, where the job of a live build or hook is that of no candidate run.
    pub turns_carry : (counts : Counts R D H) (m now : Moment w) (j : ℕ)
        → (Builds w j m ⊎ Hooks w j m → All (λ (e : ℕ × LiveRun B R). e.0 ≢ j) m.execution.state.runs) → TurnsJob w counts j m now
        → CarriesIn (OfTurned w first OfRun OfWaiting (inner w m) j) m now
    turns_carry counts m now j apart (intake.build {then = then} {after = next} live t is) =
        let on = builds m j (apart (inl live)) counts.build then next t in
        subst (λ (n : Moment w). CarriesIn (OfTurned w first OfRun OfWaiting (inner w m) j) m n) (sym is)
        (record { carries = on.0; freed = λ free. sym on.1 ∙ free })
    turns_carry counts m now j apart (intake.hook {marks = marks} {after = next} unbuilt live on is) =
        subst (λ (n : Moment w). CarriesIn (OfTurned w first OfRun OfWaiting (inner w m) j) m n) (sym is)
        (record { carries = hooks m j (apart (inr live)) counts.hook marks next on; freed = λ free. free })
    turns_carry counts m now j apart (intake.run {then = then} {after = next} unbuilt unhooked_here c is) =
        subst (λ (n : Moment w). CarriesIn (OfTurned w first OfRun OfWaiting (inner w m) j) m n) (sym is) (by c)
      where
        Behind : exec.Moment w → Type 0
        Behind n = CarriesFrom w first OfRun OfWaiting (OfTurned w first OfRun OfWaiting (inner w m) j) (inner w m) n

        by : Completes w counts.run (inner w m) m.execution.front j then next
            → CarriesIn (OfTurned w first OfRun OfWaiting (inner w m) j) m
            (record (with_inner w m then) { execution = record m.execution { state = then.state; front = next } })
        by (candidate steps stays) = record {
          carries = carries_steps w first OfRun OfWaiting started counts.run (inner w m) then j steps;
          freed = pause-steps w counts.run (inner w m) then j (λ (x : Pause). x ≡ Free → m.execution.state.pause ≡ Free)
              (λ b new crosses. crossed_free w.header b m.execution.state.pause new crosses) (λ free. free) steps;
        }
        by (finalized absent steps is) =
            let on : Behind (record (inner w m) { marks = then.marks }) =
            finals m j (none_at m.execution.state.runs j absent) counts.run then.marks next steps in
            record {
              carries = subst (λ (n : exec.Moment w). Behind n) (sym is) on;
              freed = λ free. sym (ap (λ (n : exec.Moment w). n.state.pause) is) ∙ free;
            }

    module _ (stored_now : ℕ → Option (Named B)) (anchor : Anchor)
        (must : (t : ℕ) (request : Request B C I) (more : List (Named B)) (cache : List (Cached U))
        → IsPrepared w.header anchor cache stored_now request more acquired.Waits → OfWaiting t (first_of request)) where
      -- Behind another event, but a restart.
      pub takes_carry : (counts : Counts R D H) (m now : Moment w) (e : Event B C I) → m.execution.state.anchor ≡ anchor → IsNoTurn e
          → ((f t : ℕ) (r : Requested B C I) → e ≡ event.Fetched f None → Fetches m.execution.state f t r → OfWaiting t (first_of r.request))
          → TakesIn w stored_now counts m now e → CarriesIn (OfRuns w first OfRun OfWaiting m.execution.state.runs) m now
      takes_carry counts m now e here no_turn none (intake.enters {x = x} is become) =
          same m now (ap (λ (n : Moment w). n.execution) become) (ap (λ (n : Moment w). n.marks) become)
      takes_carry counts m now e here no_turn none (intake.cancels {t = t} c) =
          subst (λ (n : Moment w). CarriesIn (OfRuns w first OfRun OfWaiting m.execution.state.runs) m n) (sym c.becomes) (record {
            carries = carries_gives_up w first OfRun OfWaiting started (inner w m) c.state m.execution.build c.build t c.marks c.gives_up;
            freed = λ free. sym (pause_gives_up m.execution.state c.state m.execution.build c.build t c.marks c.gives_up) ∙ free;
          })
      takes_carry counts m now e here no_turn none (intake.fetched {f = f} {answer = answer} {then = then} is become) =
          subst (λ (n : Moment w). CarriesIn (OfRuns w first OfRun OfWaiting m.execution.state.runs) m n) (sym become) (record {
            carries = carries_fetched w first OfRun OfWaiting started stored_now anchor must (inner w m) then f answer here
                (λ t r fetches none_is. none f t r (ap (λ (o : Option (Named B)). event.Fetched f o) none_is) fetches) is;
            freed = λ free. sym (pause_fetched w stored_now (inner w m) then f answer is) ∙ free;
          })
      takes_carry counts m now e here no_turn none (intake.turns {j = j} t) = absurd no_turn
      takes_carry counts m now e here no_turn none (intake.flushes {k = k} {i = i} {answer = answer} f) =
          same m now (ap (λ (n : Moment w). n.execution) f.becomes) (ap (λ (n : Moment w). n.marks) f.becomes)
      takes_carry counts m now e here no_turn none (intake.stops become) =
          same m now (ap (λ (n : Moment w). n.execution) become) (ap (λ (n : Moment w). n.marks) become)
      takes_carry counts m now e here no_turn none (intake.progresses {i = i} is) =
          same m now (ap (λ (n : Moment w). n.execution) is) (ap (λ (n : Moment w). n.marks) is)
      takes_carry counts m now e here no_turn none (intake.restarts is) =
          same m now (ap (λ (n : Moment w). n.execution) is) (ap (λ (n : Moment w). n.marks) is)
