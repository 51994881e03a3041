-- After each event that is taken in live runs go on turning, and where nothing pauses each request that waits abstains.
use Rattle.std.proofs.Common.{◌≡◌, ◌≢◌, ◌≤◌, ◌<◌, ◌+◌, ◌==◌, inl, inr, ◌⊎◌, option_map, ℕ, Bool, true, false, List, [], ◌∷◌, All, Option, None, Some, IfSome, get_or, refl, sym, ap, ◌∙◌, subst, arith}
use Rattle.std.proofs.lemmas.Bool.{eqb-true, eq-eqb}
use Rattle.std.proofs.lemmas.List.{append_cancel_left}
use Rattle.std.proofs.lemmas.List.Elements.{All-weaker}
use Rattle.stateful_base.specs.Names.{Named}
use Rattle.stateful_base.specs.declared.digest.Digest.{Digest}
use Rattle.stateful_base.specs.declared.outcome.Finality.TheVariants as finality
use Rattle.stateful_base.specs.declared.outcome.Moved.TheVariants.{Pending}
use Rattle.stateful_db.specs.Chain.{IsPoint}
use Rattle.stateful_db.specs.Works.{run_of, Costs}
use Rattle.stateful_history.specs.Asked.{asked_for}
use Rattle.stateful_history.specs.Fetches.{Abstains}
use Rattle.stateful_history.specs.Jobs.{JobOf, job_of, started_for, turns, IsLiveJob}
use Rattle.stateful_history.specs.Live.{live_job, names_live}
use Rattle.stateful_history.specs.Met.{TrueNames}
use Rattle.stateful_history.specs.Past.{Past, Came, after}
use Rattle.stateful_history.specs.Stops.{IsRestart}
use Rattle.stateful_history.specs.declared.event.Event.{Event}
use Rattle.stateful_history.specs.declared.event.Event.TheVariants as event
use Rattle.stateful_history.specs.declared.mark.JobKind.{JobKind}
use Rattle.stateful_history.specs.declared.mark.JobKind.TheVariants.{Candidate, Build, Hook}
use Rattle.stateful_history.specs.declared.mark.Mark.{Mark}
use Rattle.stateful_exec_cache.specs.declared.cache.Cached.{Cached}
use Rattle.stateful_table.specs.Table.{at}
use Rattle.stateful_exec_model.specs.Ending.{Turns}
use Rattle.stateful_exec_tables.specs.Fetching.{Fetches}
use Rattle.stateful_exec_walk.specs.Walk.{IsPrepared}
use Rattle.stateful_exec_model.specs.Workings.{Workings, Point}
use Rattle.stateful_exec_model.specs.declared.building.Building.{Building}
use Rattle.stateful_exec_model.specs.declared.front.Front.{Front}
use Rattle.stateful_exec_model.specs.declared.front.Stage.TheVariants.{Hooking}
use Rattle.stateful_exec_pause.specs.declared.pause.Pause.TheVariants.{Free}
use Rattle.stateful_exec_walk.specs.declared.request.Request.{Request}
use Rattle.stateful_exec_tables.specs.declared.tables.LiveRun.{LiveRun}
use Rattle.stateful_exec_tables.specs.declared.tables.Phase.{Phase}
use Rattle.stateful_exec_tables.specs.declared.tables.Phase.TheVariants.{Fetching, Waiting}
use Rattle.stateful_exec_tables.specs.declared.tables.Requested.{Requested}
use Rattle.stateful_exec_walk.specs.declared.walk.Acquired.TheVariants as acquired
use Rattle.stateful_exec_laws.specs.Building.{IsBuilding}
use Rattle.stateful_exec_laws.specs.Fronting.{RunsTakeTurns, IsAtStage}
use Rattle.stateful_exec_laws.specs.Requesting.{first_of, IsInPhase, IsStanding}
use Rattle.stateful_exec_laws.specs.Running.{IsRunning}
use Rattle.stateful_exec_laws.specs.Setting.{setting}
use Rattle.stateful_exec_laws.specs.Storing.{IsStoredNow}
use Rattle.stateful_exec_laws.proofs.earned.Carried.{IsMild}
use Rattle.stateful_exec_laws.proofs.ended.Points.{Stacked-point}
use Rattle.stateful_exec_laws.proofs.runs.Removing.{All-at, differ}
use Rattle.stateful_exec_laws.proofs.runs.Kept.{turns-after}
use Rattle.stateful_exec_laws.proofs.runs.TurnedStands.{live-started}
use Rattle.stateful_loop_model.specs.Intake as intake
use Rattle.stateful_loop_model.specs.Intake.{Counts, Builds, Hooks, TurnsJob, TakesIn}
use Rattle.stateful_loop_model.specs.Moments.{Moment, inner}
use Rattle.stateful_loop_laws.specs.Execution.{Executes}
use Rattle.stateful_loop_laws.specs.InHand.{GoesOnAt}
use Rattle.stateful_loop_laws.specs.TakenBehind.{TakenBehind}
use Rattle.stateful_loop_laws.proofs.tickets.AbstainsKept.{Abstains-mild, Abstains-came}
use Rattle.stateful_loop_laws.proofs.execution.Kept.{Executes-names}
use Rattle.stateful_loop_laws.proofs.carried.GoesRules.{must-abstain, started-Goes}
use Rattle.stateful_loop_laws.proofs.carried.IntakeCarried.{IsNoTurn, CarriesIn, turns_carry, takes_carry}
use Rattle.stateful_loop_laws.proofs.events.RuleItems.{IsStoredNow-after}
use Rattle.stateful_loop_laws.proofs.carried.RunsCarried.{OfRuns, OfRequests, OfTurned}
use Rattle.stateful_loop_laws.proofs.carried.SettledIntake.{settled-takes_in}
use Rattle.stateful_loop_laws.proofs.media.StatesKept.{KeepsStates, keeps-then, keeps-mild, keeps-came, Goes, parent-same, Goes-kept}

-- an event that gives no job a turn leaves how often each was turned
turns-came : {B C I : Type 0} (p : Past B C I) (e : Event B C I) → IsNoTurn e → (k : ℕ) → turns k (Came e ∷ p) ≡ turns k p
turns-came p (event.Turn j) off k = absurd off
turns-came p e off k = refl

-- a turn of a job leaves how often others were turned
turns-other : {B C I : Type 0} (p : Past B C I) (j i : ℕ) → i ≢ j → turns i (Came (event.Turn j) ∷ p) ≡ turns i p
turns-other p j i off = rw (differ i j (λ is. off (sym is))) refl

-- a live job of one kind isn't one of another
kinds_apart : {B C I : Type 0} (p : Past B C I) (j k : ℕ) (d e : Digest) (kind other : JobKind) → (kind ≡ other → ⊥) → IsLiveJob j kind d p
    → IsLiveJob k other e p → j ≢ k
kinds_apart p j k d e kind other apart one two same =
    let jobs : Some (job_of kind d) ≡ Some (job_of other e) = sym one.is ∙ ap (λ (i : ℕ). started_for i p) same ∙ two.is in
    apart (let kinds : Some kind ≡ Some other = ap (λ (o : Option JobOf). option_map (λ (x : JobOf). x.kind) o) jobs in cc)

module _ {B C I P R D H G U : Type 0} (w : Workings B C I P R D H G U) (stored : ℕ → Option (Named B)) (base : w.States) (p : Past B C I)
    (m : Moment w) (x : Executes w stored base p m) where
  -- the job of a live build or hook is that of no candidate run
  runs_apart : (j : ℕ) → Builds w j m ⊎ Hooks w j m → All (λ (e : ℕ × LiveRun B R). e.0 ≢ j) m.execution.state.runs
  runs_apart j (inl (b, live)) k d l same =
      let e = get_or m.execution.state.runs k d in
      let each : IfSome (Some b) (IsBuilding w stored p x.points m.next m.execution.state.anchor m.execution.state.cache) =
      subst (λ (o : Option (Building B C D)). IfSome o (IsBuilding w stored p x.points m.next m.execution.state.anchor m.execution.state.cache))
      live.live x.builds.each in
      kinds_apart p e.0 b.job _ _ Candidate Build (λ e. cc) (x.tables.runs.each k d l).job each.job (same ∙ sym live.job)
  runs_apart j (inr (b, hook, live)) k d l same =
      let e = get_or m.execution.state.runs k d in
      let at_stage : IsAtStage w stored p x.point m.next m.execution.state.anchor b (Hooking j hook) =
      subst (λ (o : Option (Front B R U H)). IfSome o (λ f. IsAtStage w stored p x.point m.next m.execution.state.anchor f.block f.stage))
      live.is x.fronts.at_stage in
      kinds_apart p e.0 j _ _ Candidate Hook (λ e. cc) (x.tables.runs.each k d l).job at_stage.1.job same

  -- a request that fetches under this number asked for it
  asked_by : (f t : ℕ) (r : Requested B C I) → Fetches m.execution.state f t r → asked_for f p ≡ Some (Some t)
  asked_by f t r fetches =
      let st = All-at (λ (e : ℕ × Requested B C I). IsStanding w stored p m.execution.state.runs e.0 e.1) m.execution.state.requests t r
      fetches.there x.tables.requests.each in
      let phase : IsInPhase w stored p m.execution.state.runs t r.request (Fetching f) =
      subst (λ (s : Phase B). IsInPhase w stored p m.execution.state.runs t r.request s) fetches.fetching st.phase in
      phase.1

  module _ (j : ℕ) (last : Past B C I) (names : TrueNames (setting w stored) last) (k : KeepsStates (setting w stored) p last)
      (turned : (i : ℕ) → turns i last ≡ turns i (Came (event.Turn j) ∷ p))
      (goes : All (λ (e : ℕ × LiveRun B R). Goes w stored base p e.0 e.1.block) m.execution.state.runs) where
    others : All (λ (e : ℕ × LiveRun B R). e.0 ≢ j → Goes w stored base last e.0 e.1.block) m.execution.state.runs
    others i d l off =
        let e = get_or m.execution.state.runs i d in
        Goes-kept w stored base p m x e.0 e.1 (x.tables.runs.each i d l) last names k (turned e.0 ∙ turns-other p j e.0 off) (goes i d l)

    module _ (live : LiveRun B R) (run : R) (live_is : at m.execution.state.runs j ≡ Some live) (turn : Turns w m.members live.run run Pending) where
      own : IsRunning w stored p x.points m.next m.execution.state.anchor m.execution.state.cache j live
      own = All-at (λ (e : ℕ × LiveRun B R). IsRunning w stored p x.points m.next m.execution.state.anchor m.execution.state.cache e.0 e.1)
          m.execution.state.runs j live live_is x.tables.runs.each

      abbrev Cost : Option ℕ
      Cost = w.works.run_cost finality.Candidate (x.points own.parent.digest).1 live.block.block

      -- what the turn says of its cost
      turned-costs : Costs {T = Option U} Cost Pending (turns j p)
      turned-costs = turn.costs
          (run_of finality.Candidate (w.context_of live.block.block) (record { first = live.block; rest = own.parent ∷ [] }) own.own
          (x.points own.parent.digest) own.below)
          (turns j p) x.point own.runs x.located
          (subst (λ (y : Point w). IsPoint y (x.points own.parent.digest ∷ own.below)) x.tables.at_anchor (Stacked-point w own.chain))

      left : (o : Option ℕ) → Cost ≡ o → (n : ℕ) → o ≡ Some n → turns j p + 1 < n
      left None is n some = cc
      left (Some cost) is n some =
          let l : turns j p + 1 < cost = rw is at turned-costs in
          let e : cost ≡ n = cc in
          subst (λ (i : ℕ). turns j p + 1 < i) e l

      -- so its job was turned less often than it takes turns
      own_goes : Goes w stored base last j live.block
      own_goes t has n cost =
          let then : t ≡ (x.points own.parent.digest).1 =
          parent-same w stored base p m x j live own last names k t has ∙ ap (λ (d : Digest). (x.points d).1) (sym own.parent_is) in
          subst (λ (i : ℕ). i < n) (sym (turned j ∙ rw (eq-eqb j j refl) refl))
          (left Cost refl n (ap (λ (s : w.States). w.works.run_cost finality.Candidate s live.block.block) (sym then) ∙ cost))

      each_goes : OfRuns w m.execution.state.next_job (Goes w stored base last) (λ t b. Unit {0}) m.execution.state.runs
      each_goes i d l = by (e.0 == j) refl
        where
          e : ℕ × LiveRun B R
          e = get_or m.execution.state.runs i d

          r : IsRunning w stored p x.points m.next m.execution.state.anchor m.execution.state.cache e.0 e.1
          r = x.tables.runs.each i d l

          by : (b : Bool) → (e.0 == j) ≡ b → Goes w stored base last e.0 e.1.block
          by false off = others i d l (λ is. let no : (e.0 == j) ≡ true = eq-eqb e.0 j is in cc)
          by true same =
              let number : e.0 ≡ j = eqb-true e.0 j same in
              let jobs : Some (job_of Candidate e.1.block.digest) ≡ Some (job_of Candidate live.block.digest) =
              sym r.job.is ∙ ap (λ (i : ℕ). started_for i p) number ∙ own.job.is in
              let digests : Some e.1.block.digest ≡ Some live.block.digest = ap (λ (o : Option JobOf). option_map (λ (y : JobOf). y.digest) o) jobs in
              let digest : e.1.block.digest ≡ live.block.digest = cc in
              let block : e.1.block ≡ live.block = Executes-names w stored base p m x e.1.block live.block r.met own.met digest in
              subst (λ (b : Named B). Goes w stored base last e.0 b) (sym block)
              (subst (λ (i : ℕ). Goes w stored base last i live.block) (sym number) own_goes)

module _ {B C I P R D H G U : Type 0} (w : Workings B C I P R D H G U) (stored : ℕ → Option (Named B)) (base : w.States)
    (runs_cost : RunsTakeTurns w) (p : Past B C I) (stored_now : ℕ → Option (Named B)) (stored_is : IsStoredNow stored p stored_now)
    (counts : Counts R D H) (m now : Moment w) (x : Executes w stored base p m) (goes : GoesOnAt w stored base p m) where
  module _ (e : Event B C I) (on : IsRestart e → ⊥) (takes : TakesIn w stored_now counts m now e)
      (t : TakenBehind w stored base (Came e ∷ p) m now) where
    abbrev last : Past B C I
    last = after (Came e ∷ p) t.more

    abbrev OfRun : ℕ → Named B → Type 0
    OfRun = Goes w stored base last

    abbrev OfWaiting : ℕ → Named B → Type 0
    OfWaiting u b = now.execution.state.pause ≡ Free → now.execution.state.anchor ≡ m.execution.state.anchor → All (λ x. IsMild x) t.more
        → Abstains (setting w stored) u last b

    abbrev Carried : Type 0 → Type 0
    Carried Before = CarriesIn w m.execution.state.next_job OfRun OfWaiting Before m now

    names : TrueNames (setting w stored) last
    names = Executes-names w stored base last now t.stands.executes

    turned : (j : ℕ) → turns j last ≡ turns j (Came e ∷ p)
    turned j = turns-after (Came e ∷ p) t.more j

    keeps : All (λ x. IsMild x) t.more → KeepsStates (setting w stored) p last
    keeps mild = keeps-then (setting w stored) p (Came e ∷ p) last (keeps-came (setting w stored) p e on)
        (keeps-mild (setting w stored) (Came e ∷ p) t.more mild)

    must : (u : ℕ) (request : Request B C I) (more : List (Named B)) (cache : List (Cached U))
        → IsPrepared w.header m.execution.state.anchor cache stored_now request more acquired.Waits → OfWaiting u (first_of request)
    must u request more cache needs free same mild = must-abstain w stored base last now t.stands.executes stored_now
        (IsStoredNow-after stored (Came e ∷ p) stored_now stored_is t.more t.of_rules) free m.execution.state.anchor same u request more cache needs

    none_found : (f u : ℕ) (r : Requested B C I) → e ≡ event.Fetched f None → Fetches m.execution.state f u r → OfWaiting u (first_of r.request)
    none_found f u r is fetches free same mild = Abstains-mild (setting w stored) u (first_of r.request) (Came e ∷ p) t.more mild
        (subst (λ (v : Event B C I). Abstains (setting w stored) u (Came v ∷ p) (first_of r.request)) (sym is)
        (inl (inl (asked_by w stored base p m x f u r fetches))))

    -- what is carried on stands
    goes_of : (Before : Type 0) → Carried Before → (All (λ x. IsMild x) t.more → Before) → GoesOnAt w stored base last now
    goes_of Before c before = record {
      runs = c.carries.runs (omega arith) (before mild);
      settled = settled-takes_in w m goes.settled stored_now counts e now takes;
      abstain = λ free. All-weaker (λ (e : ℕ × Requested B C I). e.1.phase ≡ Waiting → OfWaiting e.0 (first_of e.1.request))
          (λ e. e.1.phase ≡ Waiting → Abstains (setting w stored) e.0 last (first_of e.1.request))
          (λ e h is. h is free c.carries.anchor_is mild) now.execution.state.requests (c.carries.waiting (waited free));
    }
      where
        more_are : c.carries.more ≡ t.more
        more_are = append_cancel_left m.marks c.carries.more t.more (sym c.carries.marks_are ∙ t.marks_are)

        mild : All (λ x. IsMild x) t.more
        mild = subst (λ (ms : List (Mark B)). All (λ x. IsMild x) ms) more_are c.carries.mild

        waited : now.execution.state.pause ≡ Free → OfRequests w m.execution.state.next_job OfRun OfWaiting m.execution.state.requests
        waited free = All-weaker (λ (e : ℕ × Requested B C I). e.1.phase ≡ Waiting → Abstains (setting w stored) e.0 p (first_of e.1.request))
            (λ e. e.1.phase ≡ Waiting → OfWaiting e.0 (first_of e.1.request))
            (λ r h is still same all_mild. Abstains-mild (setting w stored) r.0 (first_of r.1.request) (Came e ∷ p) t.more all_mild
            (Abstains-came (setting w stored) r.0 (first_of r.1.request) p e on (h is)))
            m.execution.state.requests (goes.abstain (c.freed free))

    -- where no job is turned
    goes_unturned : IsNoTurn e → GoesOnAt w stored base last now
    goes_unturned off = goes_of (OfRuns w m.execution.state.next_job OfRun OfWaiting m.execution.state.runs)
        (takes_carry w m.execution.state.next_job OfRun OfWaiting
        (λ j b le. started-Goes w stored base p m x runs_cost last j b le (as_often j)) stored_now m.execution.state.anchor must counts m now e
        refl off none_found takes)
        (λ mild k d l.
        let r = get_or m.execution.state.runs k d in
        Goes-kept w stored base p m x r.0 r.1 (x.tables.runs.each k d l) last names (keeps mild) (as_often r.0) (goes.runs k d l))
      where
        as_often : (j : ℕ) → turns j last ≡ turns j p
        as_often j = turned j ∙ turns-came p e off j

  -- where a live job is
  goes_turned : (j : ℕ) → live_job j p ≡ true → (takes : TakesIn w stored_now counts m now (event.Turn j))
      → (t : TakenBehind w stored base (Came (event.Turn j) ∷ p) m now) → GoesOnAt w stored base (after (Came (event.Turn j) ∷ p) t.more) now
  goes_turned j live takes t = goes_of (event.Turn j) (λ no. no) takes t
      (OfTurned w m.execution.state.next_job Of_run Of_waiting (inner w m) j)
      (turns_carry w m.execution.state.next_job Of_run Of_waiting started counts m now j
      (runs_apart w stored base p m x j) (by takes))
      (λ mild. (
        others w stored base p m x j q (names (event.Turn j) (λ no. no) takes t) (keeps (event.Turn j) (λ no. no) takes t mild)
            (turned (event.Turn j) (λ no. no) takes t) goes.runs,
        λ run turned_to is turn. (
          each_goes w stored base p m x j q (names (event.Turn j) (λ no. no) takes t) (keeps (event.Turn j) (λ no. no) takes t mild)
              (turned (event.Turn j) (λ no. no) takes t) goes.runs run turned_to is turn,
          own_goes w stored base p m x j q (names (event.Turn j) (λ no. no) takes t) (keeps (event.Turn j) (λ no. no) takes t mild)
              (turned (event.Turn j) (λ no. no) takes t) goes.runs run turned_to is turn,
        ),
      ))
    where
      q : Past B C I
      q = after (Came (event.Turn j) ∷ p) t.more

      Of_run : ℕ → Named B → Type 0
      Of_run = Goes w stored base q

      Of_waiting : ℕ → Named B → Type 0
      Of_waiting = OfWaiting (event.Turn j) (λ no. no) takes t

      by : TakesIn w stored_now counts m now (event.Turn j) → TurnsJob w counts j m now
      by (intake.turns turns) = turns
      by (intake.enters is become) = absurd (cc)

      started : (k : ℕ) (b : Named B) → m.execution.state.next_job ≤ k → Goes w stored base q k b
      started k b le = started-Goes w stored base p m x runs_cost q k b le
          (turned (event.Turn j) (λ no. no) takes t k ∙ turns-other p j k (λ same.
          let low = x.tables.numbers.jobs j (live-started j p live) in omega (arith, low, le, same)))

  -- So it is after each event that names what is live, but for a restart.
  pub goes-takes_in : (count : ℕ) (e : Event B C I) → (IsRestart e → ⊥) → names_live count p e ≡ true → (takes : TakesIn w stored_now counts m now e)
      → (t : TakenBehind w stored base (Came e ∷ p) m now) → GoesOnAt w stored base (after (Came e ∷ p) t.more) now
  goes-takes_in count (event.Turn j) on live takes t = goes_turned j live takes t
  goes-takes_in count e on live takes t = goes_unturned e on takes t tt
