-- After each rule of the loop live runs go on turning, and where nothing pauses each request that waits abstains.
use Rattle.std.proofs.Common.{◌≡◌, ◌≤◌, ◌<◌, inl, inr, ◌⊎◌, ℕ, List, [], ◌∷◌, map, All, Option, None, Some, get_or, refl, sym, ap, ◌∙◌, subst, arith}
use Rattle.std.proofs.lemmas.List.{append_cancel_left}
use Rattle.std.proofs.lemmas.List.Elements.{All-weaker}
use Rattle.stateful_base.specs.Names.{Named}
use Rattle.stateful_base.specs.declared.anchor.Anchor.{Anchor}
use Rattle.stateful_base.specs.declared.digest.Digest.{Digest}
use Rattle.stateful_base.specs.declared.outcome.Finality.TheVariants as finality
use Rattle.stateful_db.specs.Laws.{Laws}
use Rattle.stateful_history.specs.Fetches.{Abstains}
use Rattle.stateful_history.specs.Jobs.{turns}
use Rattle.stateful_history.specs.Met.{TrueNames}
use Rattle.stateful_history.specs.Past.{Past, Made, after}
use Rattle.stateful_history.specs.Setting.{parent_of}
use Rattle.stateful_history.specs.declared.mark.Mark.{Mark}
use Rattle.stateful_history.specs.declared.mark.Mark.TheVariants.{Applied, Began, Withdrawn}
use Rattle.stateful_exec_cache.specs.Cache.{IsAtHand}
use Rattle.stateful_exec_cache.specs.declared.cache.Cached.{Cached}
use Rattle.stateful_exec_walk.specs.Walk.{IsPrepared}
use Rattle.stateful_exec_model.specs.Workings.{Workings, Point}
use Rattle.stateful_exec_model.specs.declared.front.Front.{Front}
use Rattle.stateful_exec_model.specs.declared.front.Stage.{Stage}
use Rattle.stateful_exec_model.specs.declared.front.Stage.TheVariants.{Begun, Running, Ran, Advanced, Hooking}
use Rattle.stateful_exec_pause.specs.declared.pause.Pause.TheVariants.{Free, Finalizing}
use Rattle.stateful_exec_walk.specs.declared.request.Request.{Request}
use Rattle.stateful_exec_tables.specs.declared.state.Tables.{Tables}
use Rattle.stateful_exec_tables.specs.declared.tables.LiveRun.{LiveRun}
use Rattle.stateful_exec_tables.specs.declared.tables.Phase.TheVariants.{Waiting}
use Rattle.stateful_exec_tables.specs.declared.tables.Requested.{Requested}
use Rattle.stateful_exec_walk.specs.declared.walk.Acquired.TheVariants as acquired
use Rattle.stateful_exec_laws.specs.Fronting.{RunsTakeTurns}
use Rattle.stateful_exec_laws.specs.Outstanding.{GoesOnTurning, RunsGoOn}
use Rattle.stateful_exec_laws.specs.Requesting.{first_of}
use Rattle.stateful_exec_laws.specs.Running.{IsRunning}
use Rattle.stateful_exec_laws.specs.Setting.{setting}
use Rattle.stateful_exec_laws.specs.Storing.{IsStoredNow}
use Rattle.stateful_exec_laws.proofs.earned.Carried.{IsMild}
use Rattle.stateful_exec_laws.proofs.runs.Kept.{turns-after}
use Rattle.stateful_loop_model.specs.Moments.{Moment}
use Rattle.stateful_loop_model.specs.Rules.{IsFinalizing, HasStates, AppliesBlock, Rule}
use Rattle.stateful_loop_model.specs.declared.tables.Finalizing.{Finalizing as Finalizes}
use Rattle.stateful_loop_laws.specs.Behind.{UpBehind}
use Rattle.stateful_loop_laws.specs.Execution.{IsPlaced, IsPlacedAt, IsFree, Executes}
use Rattle.stateful_loop_laws.specs.InHand.{NoneOpen, GoesOnAt}
use Rattle.stateful_loop_laws.specs.Stands.{IsUpAt}
use Rattle.stateful_loop_laws.proofs.tickets.AbstainsKept.{Abstains-mild}
use Rattle.stateful_loop_laws.proofs.execution.Applies.{over_begun, IsExecutedOver, Executes-applies_over}
use Rattle.stateful_loop_laws.proofs.execution.Kept.{Executes-names}
use Rattle.stateful_loop_laws.proofs.carried.LoopCarried.{BeginsAt, CarriesAt, RuleCarries, carried, begun, applied, rule_carries}
use Rattle.stateful_loop_laws.proofs.events.RuleItems.{IsStoredNow-after}
use Rattle.stateful_loop_laws.proofs.carried.RunsCarried.{OfRuns, OfRequests}
use Rattle.stateful_loop_laws.proofs.carried.SettledRules.{settled-rule}
use Rattle.stateful_loop_laws.proofs.media.StatesKept.{KeepsStates, keeps-same, keeps-mild, keeps-began, Goes, parent-HasState, parent-same, Goes-kept}
use Rattle.stateful_loop_laws.proofs.tickets.WaitsAbstain.{waits-Abstains}

module _ {B C I P R D H G U : Type 0} (w : Workings B C I P R D H G U) (stored : ℕ → Option (Named B)) (base : w.States) where
  module _ (p : Past B C I) (m : Moment w) (x : Executes w stored base p m) where
    -- nothing pauses where execution isn't paused
    pub free-placed : m.execution.state.pause ≡ Free → IsFree w stored base p x.points x.point m.next m.execution.state
    free-placed free = by m.execution.front x.placed
      where
        at_stage : (b : Named B) (stage : Stage R U H) → IsPlacedAt w stored base p x.points x.point m.next m.execution.state b stage
            → IsFree w stored base p x.points x.point m.next m.execution.state
        at_stage b Begun h = let no : Finalizing h.boundary ≡ Free = sym h.pause_is ∙ free in absurd (cc)
        at_stage b (Running j run) h = let no : Finalizing h.paused.boundary ≡ Free = sym h.paused.pause_is ∙ free in absurd (cc)
        at_stage b (Ran batch) h = let no : Finalizing h.paused.boundary ≡ Free = sym h.paused.pause_is ∙ free in absurd (cc)
        at_stage b Advanced h = let no : Finalizing h.moved.boundary ≡ Free = sym h.moved.pause_is ∙ free in absurd (cc)
        at_stage b (Hooking j hook) h = let no : Finalizing h.moved.boundary ≡ Free = sym h.moved.pause_is ∙ free in absurd (cc)

        by : (front : Option (Front B R U H)) → IsPlaced w stored base p x.points x.point m.next m.execution.state front
            → IsFree w stored base p x.points x.point m.next m.execution.state
        by None h = h
        by (Some f) h = at_stage f.block f.stage h

    -- a request that has to wait abstains then
    pub must-abstain : (stored_now : ℕ → Option (Named B)) → IsStoredNow stored p stored_now → m.execution.state.pause ≡ Free → (anchor : Anchor)
        → m.execution.state.anchor ≡ anchor → (t : ℕ) (request : Request B C I) (more : List (Named B)) (cache : List (Cached U))
        → IsPrepared w.header anchor cache stored_now request more acquired.Waits → Abstains (setting w stored) t p (first_of request)
    must-abstain stored_now stored_is free anchor here t request more cache needs =
        let f = free-placed free in
        waits-Abstains w stored p anchor cache stored_now (f.ground.folded.anchor_is ∙ ap (λ (a : Anchor). Some a) here)
        (f.ground.folded.tip_is ∙ ap (λ (a : Anchor). Some a) here) stored_is t request more needs

    -- a job that was never started was never turned, and each run takes some turn
    pub started-Goes : RunsTakeTurns w → (q : Past B C I) → (j : ℕ) (b : Named B) → m.execution.state.next_job ≤ j → turns j q ≡ turns j p
        → Goes w stored base q j b
    started-Goes costs q j b le turned t has n cost =
        subst (λ (i : ℕ). i < n) (sym (turned ∙ x.tables.numbers.unturned j le)) (costs finality.Candidate t b.block n cost)

  -- after the apply of a finalized block
  module _ (laws : Laws w.kind) (p : Past B C I) (m now : Moment w) (f : Finalizes B G) (r : AppliesBlock w f m now) (x : Executes w stored base p m)
      (fin : IsFinalizing w m f) (has : HasStates w m f.block) where
    abbrev q : Past B C I
    q = Made (Applied f.block) ∷ p

    over : IsExecutedOver w laws stored base p m now f r x now
    over = Executes-applies_over w laws stored base p m now f r x fin has

    runs_are : now.execution.state.runs ≡ m.execution.state.runs
    runs_are = ap (λ (n : Moment w). n.execution.state.runs) r.becomes ∙ ap (λ (v : Tables B C I R U). v.runs) r.moves.state

    names : TrueNames (setting w stored) q
    names = Executes-names w stored base q now over.executes

    RunsGoOn-applies : RunsGoOn w stored base p m.execution.state.runs → RunsGoOn w stored base q now.execution.state.runs
    RunsGoOn-applies on = subst (λ (rs : List (ℕ × LiveRun B R)). RunsGoOn w stored base q rs) (sym runs_are) (λ i d l.
        let e = get_or m.execution.state.runs i d in
        one e.0 e.1 (x.tables.runs.each i d l)
        (subst (λ rs. All (λ (e : ℕ × LiveRun B R). Running_now e.0 e.1) rs) runs_are over.executes.tables.runs.each i d l) (on i d l))
      where
        Running_now : ℕ → LiveRun B R → Type 0
        Running_now j run = IsRunning w stored q over.executes.points now.next now.execution.state.anchor now.execution.state.cache j run

        one : (j : ℕ) (run : LiveRun B R) → IsRunning w stored p x.points m.next m.execution.state.anchor m.execution.state.cache j run
            → Running_now j run → GoesOnTurning w stored base p j run → GoesOnTurning w stored base q j run
        one j run old new goes t has_t n cost =
            let d : Digest = parent_of (setting w stored) run.block in
            let then : t ≡ (over.executes.points d).1 =
            parent-same w stored base q now over.executes j run new q names (keeps-same (setting w stored) q) t has_t in
            let point : over.executes.points d ≡ x.points d =
            over.same d (subst (λ (c : Digest). IsAtHand m.execution.state.anchor m.execution.state.cache c) old.parent_is old.at_hand) in
            let states : t ≡ (x.points d).1 = then ∙ ap (λ (z : Point w). z.1) point in
            goes (x.points d).1 (parent-HasState w stored base p m x j run old) n
            (ap (λ (s : w.States). w.works.run_cost finality.Candidate s run.block.block) (sym states) ∙ cost)

  module _ (laws : Laws w.kind) (runs_cost : RunsTakeTurns w) (p : Past B C I) (stored_now : ℕ → Option (Named B))
      (stored_is : IsStoredNow stored p stored_now) (provider : P) (m now : Moment w) (h : IsUpAt w stored base p m)
      (goes : GoesOnAt w stored base p m) (rule : Rule w stored_now provider m now) (u : UpBehind w stored base p m now) where
    abbrev last : Past B C I
    last = after p u.more

    abbrev OfRun : ℕ → Named B → Type 0
    OfRun = Goes w stored base last

    abbrev OfWaiting : ℕ → Named B → Type 0
    OfWaiting t b = now.execution.state.pause ≡ Free → now.execution.state.anchor ≡ m.execution.state.anchor → Abstains (setting w stored) t last b

    names_last : TrueNames (setting w stored) last
    names_last = Executes-names w stored base last now u.executes

    turned : (j : ℕ) → turns j last ≡ turns j p
    turned j = turns-after p u.more j

    each_kept : KeepsStates (setting w stored) p last → OfRuns w m.execution.state.next_job OfRun OfWaiting m.execution.state.runs
    each_kept k i d l =
        let e = get_or m.execution.state.runs i d in
        Goes-kept w stored base p m h.executes e.0 e.1 (h.executes.tables.runs.each i d l) last names_last k (turned e.0) (goes.runs i d l)

    settled : now.execution.state.pause ≡ Free → NoneOpen now.execution.state.requests
    settled = settled-rule w stored_now provider m now goes.settled rule

    goes_carried : CarriesAt w m.execution.state.next_job OfRun OfWaiting m now → GoesOnAt w stored base last now
    goes_carried c = record {
      runs = c.carries.runs (omega arith) (each_kept (keeps-mild (setting w stored) p u.more mild));
      settled = settled;
      abstain = λ free. All-weaker (λ (e : ℕ × Requested B C I). e.1.phase ≡ Waiting → OfWaiting e.0 (first_of e.1.request))
          (λ e. e.1.phase ≡ Waiting → Abstains (setting w stored) e.0 last (first_of e.1.request))
          (λ e h is. h is free c.carries.anchor_is) now.execution.state.requests (waiting free (c.freed free));
    }
      where
        more_are : c.carries.more ≡ u.more
        more_are = append_cancel_left m.marks c.carries.more u.more (sym c.carries.marks_are ∙ u.marks_are)

        mild : All (λ x. IsMild x) u.more
        mild = subst (λ (ms : List (Mark B)). All (λ x. IsMild x) ms) more_are c.carries.mild

        waiting : now.execution.state.pause ≡ Free
            → (m.execution.state.pause ≡ Free) ⊎ OfRequests w m.execution.state.next_job OfRun OfWaiting now.execution.state.requests
            → OfRequests w m.execution.state.next_job OfRun OfWaiting now.execution.state.requests
        waiting free (inr anew) = anew
        waiting free (inl was) = c.carries.waiting
            (All-weaker (λ (e : ℕ × Requested B C I). e.1.phase ≡ Waiting → Abstains (setting w stored) e.0 p (first_of e.1.request))
            (λ e. e.1.phase ≡ Waiting → OfWaiting e.0 (first_of e.1.request))
            (λ e h is still same. Abstains-mild (setting w stored) e.0 (first_of e.1.request) p u.more mild (h is))
            m.execution.state.requests (goes.abstain was))

    goes_begun : BeginsAt w m now → GoesOnAt w stored base last now
    goes_begun b = record {
      runs = subst (λ (rs : List (ℕ × LiveRun B R)). RunsGoOn w stored base last rs) (sym b.runs) (each_kept keeps);
      settled = settled;
      abstain = λ free. absurd (b.paused free);
    }
      where
        keeps : KeepsStates (setting w stored) p last
        keeps = subst (λ (ms : List (Mark B)). KeepsStates (setting w stored) p (after p ms))
            (append_cancel_left m.marks (Began b.ticket b.block ∷ map (λ f. Withdrawn f) b.fetches) u.more (sym b.marks_are ∙ u.marks_are))
            (keeps-began (setting w stored) p b.ticket b.block b.fetches)

    goes_applied : (f : Finalizes B G) → IsFinalizing w m f → HasStates w m f.block → AppliesBlock w f m now → GoesOnAt w stored base last now
    goes_applied f fin has r = record {
      runs = subst (λ (ms : List (Mark B)). RunsGoOn w stored base (after p ms) now.execution.state.runs)
          (append_cancel_left m.marks (Applied f.block ∷ []) u.more (sym (ap (λ (n : Moment w). n.marks) r.becomes) ∙ u.marks_are))
          (RunsGoOn-applies laws p m now f r h.executes fin has goes.runs);
      settled = settled;
      abstain = λ free.
          let o = over_begun w stored base p m f.block h.executes has in
          let paused : now.execution.state.pause ≡ Finalizing o.paused.boundary =
          ap (λ (n : Moment w). n.execution.state.pause) r.becomes ∙ ap (λ (v : Tables B C I R U). v.pause) r.moves.state ∙ o.paused.pause_is in
          let no : Finalizing o.paused.boundary ≡ Free = sym paused ∙ free in absurd (cc);
    }

    -- So it is after each rule.
    pub goes-rule : GoesOnAt w stored base last now
    goes-rule = by (rule_carries w m.execution.state.next_job OfRun OfWaiting stored_now
        (λ j b le. started-Goes p m h.executes runs_cost last j b le (turned j)) m.execution.state.anchor
        (λ t request more cache needs free same. must-abstain last now u.executes stored_now
        (IsStoredNow-after stored p stored_now stored_is u.more u.of_rules) free m.execution.state.anchor same t request more cache needs)
        provider m now refl rule)
      where
        by : RuleCarries w m.execution.state.next_job OfRun OfWaiting m now → GoesOnAt w stored base last now
        by (carried c) = goes_carried c
        by (begun b) = goes_begun b
        by (applied f fin has r) = goes_applied f fin has r
