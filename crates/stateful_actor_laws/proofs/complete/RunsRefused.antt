-- Where a run's turn is refused the reason lies outside: the run of a block that matches ends with what it commits to, and a
-- candidate's block is cached as it is, where names are true.
use Rattle.std.proofs.Common.{◌≡◌, ◌≢◌, ◌⊎◌, inl, inr, ◌==◌, ◌+◌, ◌<◌, ◌^◌, ◌++◌, ◌∷◌, [], ℕ, cond, Bool, true, false, Option, Some, None, Ok, Err, List, All, refl, sym, ap, ◌∙◌, subst}
use Rattle.std.specs.Prelude.{IfSome, MatchOption, Result}
use Rattle.std.proofs.lemmas.Bool.{eq-eqb}
use Rattle.std.proofs.lemmas.List.Elements.{All-contains}
use Rattle.stateful_base.specs.Names.{Header, Named}
use Rattle.stateful_base.specs.declared.anchor.Anchor.{Anchor}
use Rattle.stateful_base.specs.declared.digest.Digest.{Digest}
use Rattle.stateful_base.specs.declared.outcome.Finality.TheVariants as finality
use Rattle.stateful_base.specs.declared.outcome.Moved.{Moved}
use Rattle.stateful_base.specs.declared.outcome.Moved.TheVariants.{Pending, Done}
use Rattle.stateful_db.specs.Laws.{Laws}
use Rattle.stateful_db.specs.Meaning.{Ends, outcome}
use Rattle.stateful_db.specs.Works.{run_of}
use Rattle.stateful_db.specs.declared.application.AppFault.{AppFault}
use Rattle.stateful_db.specs.declared.application.AppFault.TheVariants as app
use Rattle.stateful_history.specs.Jobs.{turns}
use Rattle.stateful_history.specs.Joined.{Matches}
use Rattle.stateful_history.specs.Met.{Met, TrueNames}
use Rattle.stateful_history.specs.Past.{Past}
use Rattle.stateful_exec_cache.specs.declared.cache.Cached.{Cached}
use Rattle.stateful_table.specs.Table.{at, put}
use Rattle.stateful_table.proofs.Tables.{at-put}
use Rattle.stateful_exec_pause.specs.Boundary.{step_by}
use Rattle.stateful_exec_model.specs.Causes.{FaultsEnd, FaultsAnswer, FaultsStep}
use Rattle.stateful_exec_model.specs.Causes as cause
use Rattle.stateful_exec_tables.specs.Keeping.{step_in, ChangesPending, FaultsTake}
use Rattle.stateful_exec_model.specs.Ending.{Turns}
use Rattle.stateful_exec_tables.specs.Errors.{error_of_app}
use Rattle.stateful_exec_model.specs.Finalizing.{front_at, HasRunOn, FaultsFinal, FaultsSettleFinal, FaultsStepFinal, run_failed, HasHooked, FaultsSettleHook, FaultsHook, hook_failed}
use Rattle.stateful_exec_model.specs.Moments as exec
use Rattle.stateful_exec_model.specs.Workings.{Workings, Point}
use Rattle.stateful_exec_tables.specs.declared.error.ExecError.{ExecError}
use Rattle.stateful_exec_tables.specs.declared.error.ExecError.TheVariants as exec_error
use Rattle.stateful_exec_pause.specs.declared.boundary.ExecutionStep.{ExecutionStep}
use Rattle.stateful_exec_model.specs.declared.front.Front.{Front}
use Rattle.stateful_exec_model.specs.declared.front.Stage.TheVariants.{Running}
use Rattle.stateful_exec_tables.specs.declared.state.Tables.{Tables}
use Rattle.stateful_exec_tables.specs.declared.tables.LiveRun.{LiveRun}
use Rattle.stateful_exec_laws.specs.Caching.{IsCached}
use Rattle.stateful_exec_laws.specs.Fronting.{FrontStands, IsAtStage, IsRunFinal}
use Rattle.stateful_exec_laws.specs.Running.{IsRunning}
use Rattle.stateful_exec_laws.specs.Setting.{setting}
use Rattle.stateful_exec_laws.specs.Standing.{TablesStand}
use Rattle.stateful_exec_laws.proofs.ended.Stands.{running}
use Rattle.stateful_actor_laws.proofs.ahead.Serving.{IsOutsideOf, outside-is, AreHere, follow-outside}

pub app-outside : (fault : AppFault) → IsOutsideOf (error_of_app fault)
app-outside app.Failed = tt
app-outside app.OutOfMemory = tt

-- an error of the application
pub outside-app : (e : ExecError) (fault : AppFault) → e ≡ error_of_app fault → IsOutsideOf e
outside-app e fault is = outside-is e (error_of_app fault) is (app-outside fault)

module _ {B C I P R D H G U : Type 0} (w : Workings B C I P R D H G U) (stored : ℕ → Option (Named B)) (p : Past B C I)
    (points : Digest → Point w) (next : w.Ids) (anchor : Anchor) (cache : List (Cached U)) (each : All (IsCached w stored p points next anchor) cache)
    (b : Named B) (same : (x : Named B) → Met (setting w stored) p x → x.digest ≡ b.digest → x ≡ b) where
  -- where no other block of the history has its digest, no entry of the cache has it with another parent or round
  pub pending-same : (before after : ExecutionStep) → ChangesPending w.header b cache before after → ⊥
  pending-same before after h =
      let any = h.0 in
      let own : IsCached w stored p points next anchor any.1 =
      All-contains (IsCached w stored p points next anchor) cache any.1 each (any.0, any.2, any.3) in
      let one : own.block ≡ b = same own.block own.met (own.digest_is ∙ any.4.0) in
      let step : step_in any.1 ≡ step_by w.header b = of any.1 own b one in
      h.2 (sym any.4.1 ∙ step ∙ sym h.1)
    where
      of : (e : Cached U) → (own : IsCached w stored p points next anchor e) → (c : Named B) → own.block ≡ c → step_in e ≡ step_by w.header c
      of e own c one =
          subst (λ (x : Named B). step_in e ≡ step_by w.header x) one
          (let d = own.digest_is in let q = own.parent_is in let r = own.round_is in cc)

module _ {B C I P R D H G U : Type 0} (w : Workings B C I P R D H G U) (stored : ℕ → Option (Named B)) (p : Past B C I) where
  -- the turn of a candidate run
  module _ (names : TrueNames (setting w stored) p) (rose : Type 0) (count : R → ℕ) (points : Digest → Point w) (point : Point w) (m : exec.Moment w)
      (s : TablesStand w stored p points point m.next m.state) (here : AreHere w m.members) (j : ℕ) where
    ending-outside : (live : LiveRun B R) → at m.state.runs j ≡ Some live → (turned : R) (v : Tables B C I R U)
        → v ≡ record m.state { runs = put m.state.runs j (record live { run = turned }) } → (e : ExecError) → FaultsEnd w v j e → IsOutsideOf e
    ending-outside live there turned v is e h = of e (taken e h)
      where
        found : at v.runs j ≡ Some (record live { run = turned })
        found = ap (λ (x : Tables B C I R U). at x.runs j) is ∙ at-put m.state.runs j (record live { run = turned }) j
            ∙ ap (λ (b : Bool). cond b (Some (record live { run = turned })) (at m.state.runs j)) (eq-eqb j j refl)

        taken : (e : ExecError) → FaultsEnd w v j e → FaultsTake w.header live.block m.state.cache e
        taken e h =
            subst (λ (cache : List (Cached U)). FaultsTake w.header live.block cache e) (ap (λ (x : Tables B C I R U). x.cache) is)
            (subst (λ (o : Option (LiveRun B R)). MatchOption o ⊥ (λ run. FaultsTake w.header run.block v.cache e)) found h)

        of : (e : ExecError) → FaultsTake w.header live.block m.state.cache e → IsOutsideOf e
        of exec_error.OutOfMemory h = tt
        of (exec_error.PendingChanged before after) h =
            let run : IsRunning w stored p points m.next m.state.anchor m.state.cache j live = running w stored p points point m.next m.state s j live there in
            absurd (pending-same w stored p points m.next m.state.anchor m.state.cache s.cache.each live.block
            (λ x met same. names x live.block met run.met same) before after h)
        of e h = absurd h

    answer-outside : (live : LiveRun B R) → at m.state.runs j ≡ Some live → (turned : R) (v : Tables B C I R U)
        → v ≡ record m.state { runs = put m.state.runs j (record live { run = turned }) }
        → (answer : Result (Moved (Option U)) AppFault) (e : ExecError) → FaultsAnswer w rose (record m { state = v }) j answer e → IsOutsideOf e
    answer-outside live there turned v is (Ok Pending) e h = absurd h
    answer-outside live there turned v is (Ok (Done ended)) e (cause.memory none) = outside-is e exec_error.OutOfMemory none tt
    answer-outside live there turned v is (Ok (Done ended)) e (cause.ending h) = ending-outside live there turned v is e h
    answer-outside live there turned v is (Ok (Done ended)) e (cause.following {b = b} {how = how} {done = done} ends h) =
        follow-outside w rose b how _ _ (subst (λ (x : w.kind.Members). AreHere w x) (sym (ap (λ (n : exec.Moment w). n.members) ends.becomes)) here) e h
    answer-outside live there turned v is (Err fault) e h = outside-app e fault h

    pub candidate-outside : (e : ExecError) → FaultsStep w rose count m j e → IsOutsideOf e
    candidate-outside e (cause.memory none) = outside-is e exec_error.OutOfMemory none tt
    candidate-outside e (cause.turned {running = v} {answer = answer} t h) = answer-outside t.live t.live_is t.turned v t.state answer e h

  -- the turn of the run of the finalized block
  module _ (laws : Laws w.kind) (few : w.kind.count < 2 ^ 64) (count : R → ℕ) (m : w.kind.Members) (point : Point w) (located : w.kind.point m ≡ Some point)
      (next : w.Ids) (anchor : Anchor) (front : Option (Front B R U H)) (s : FrontStands w stored p point next anchor front) (j : ℕ) where
    -- the block in front matches the states of the databases
    abbrev MatchesAt : Named B → Type 0
    MatchesAt b = (after : w.States) × Matches (setting w stored) point.1 b after

    -- what the last turn of its run says
    abbrev EndsAs : (b : Named B) (run turned : R) → IsRunFinal w stored p point next b j run → Option U → Option w.States → Type 0
    EndsAs b run turned own o leads = Ends (Done o) leads (λ batch u. w.shows batch ((own.own, u) ∷ point ∷ []))
        (w.works.runs turned (run_of finality.Finalized (w.context_of b.block) (record { first = b; rest = [] }) own.own point []) (turns j p + 1))

    final_ended : (b : Named B) (run turned : R) (own : IsRunFinal w stored p point next b j run) (after : w.States) → Matches (setting w stored) point.1 b after
        → (o : Option U) → EndsAs b run turned own o (Some after) → (e : ExecError) → FaultsFinal w b o e → IsOutsideOf e
    final_ended b run turned own after matches o ends exec_error.OutOfMemory h = tt
    final_ended b run turned own after matches None ends (exec_error.FinalizedRejected digest) h = let never : Some after ≡ None = ends in cc
    final_ended b run turned own after matches (Some batch) shows (exec_error.FinalizedMismatch index expected given) h =
        let differs = h (own.own, after) (point ∷ []) few shows in
        absurd (differs.0 (subst (λ (t : w.Targets). w.kind.Agrees t (w.works.meaning.targets b.block) index) (sym matches.targets)
        (laws.targets.agrees_same (w.works.meaning.targets b.block) index)))
    final_ended b run turned own after matches o ends e h = absurd h

    final_turned : (b : Named B) (run turned : R) → front ≡ front_at b (Running j run) → MatchesAt b
        → (ended : Option U) → Turns w m run turned (Done ended) → (e : ExecError) → FaultsFinal w b ended e → IsOutsideOf e
    final_turned b run turned is (after, matches) ended t e h =
        let at_stage : IsAtStage w stored p point next anchor b (Running j run) =
        subst (λ (o : Option (Front B R U H)). IfSome o (λ f. IsAtStage w stored p point next anchor f.block f.stage)) is s.at_stage in
        let own = at_stage.1 in
        let ends : EndsAs b run turned own ended (Some after) =
        subst (λ (leads : Option w.States). EndsAs b run turned own ended leads) matches.step
        (t.ends (run_of finality.Finalized (w.context_of b.block) (record { first = b; rest = [] }) own.own point []) (turns j p) point own.runs located (inl refl)) in
        final_ended b run turned own after matches ended ends e h

    pub final-outside : ((b : Named B) (run : R) → front ≡ front_at b (Running j run) → MatchesAt b) → (e : ExecError)
        → FaultsStepFinal w count m front j e → IsOutsideOf e
    final-outside matching e (run_failed {b = b} {run = run} {turned = turned} {answer = answer} live ran h) = of answer ran h
      where
        of : (answer : Result (Moved (Option U)) AppFault) → HasRunOn w count m run turned answer → FaultsSettleFinal w b answer e → IsOutsideOf e
        of (Ok Pending) ran h = absurd h
        of (Ok (Done ended)) ran h = final_turned b run turned live.is (matching b run live.is) ended ran.turns e h
        of (Err fault) ran h = outside-app e fault h

  -- the turn of a hook
  pub hook-outside : (count : H → ℕ) (m : w.kind.Members) (front : Option (Front B R U H)) (j : ℕ) (e : ExecError) → FaultsHook w count m front j e → IsOutsideOf e
  hook-outside count m front j e (hook_failed {answer = answer} live had h) = of answer h
    where
      of : (answer : Result (Moved Unit) AppFault) → FaultsSettleHook w answer e → IsOutsideOf e
      of (Ok Pending) h = absurd h
      of (Ok (Done ended)) h = outside-is e exec_error.OutOfMemory h tt
      of (Err fault) h = outside-app e fault h
