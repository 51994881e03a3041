-- Execution stands after a turn of a run: of a candidate, or of the finalized block.
use Rattle.std.proofs.Common.{All, ◌≡◌, ℕ, ◌∷◌, true, false, Option, None, Some, IsSome, MatchOption, refl, sym, ap, ◌∙◌, subst}
use Rattle.stateful_base.specs.Names.{Named}
use Rattle.stateful_base.specs.declared.digest.Digest.{Digest}
use Rattle.stateful_db.specs.Laws.{Laws}
use Rattle.stateful_history.specs.Jobs.{JobOf, IsLiveJob, started_for}
use Rattle.stateful_history.specs.Live.{live_job}
use Rattle.stateful_history.specs.Past.{Past, Came, after}
use Rattle.stateful_history.specs.declared.event.Event.TheVariants.{Turn}
use Rattle.stateful_history.specs.declared.mark.JobKind.{JobKind}
use Rattle.stateful_history.specs.declared.mark.JobKind.TheVariants.{Candidate, Finalized, Build, Hook}
use Rattle.stateful_table.specs.Table.{at}
use Rattle.stateful_exec_model.specs.Ending.{Steps}
use Rattle.stateful_exec_model.specs.Finalizing.{front_at, IsFinalLive, turned, not_live, candidate, finalized}
use Rattle.stateful_exec_model.specs.Finalizing.{Completes}
use Rattle.stateful_exec_model.specs.Moments as exec
use Rattle.stateful_exec_model.specs.Workings.{Workings, Point}
use Rattle.stateful_exec_model.specs.declared.building.Building.{Building}
use Rattle.stateful_exec_model.specs.declared.front.Front.{Front}
use Rattle.stateful_exec_model.specs.declared.front.Stage.{Stage}
use Rattle.stateful_exec_model.specs.declared.front.Stage.TheVariants.{Begun, Running, Ran, Advanced, Hooking}
use Rattle.stateful_exec_tables.specs.declared.state.Tables.{Tables}
use Rattle.stateful_exec_tables.specs.declared.tables.LiveRun.{LiveRun}
use Rattle.stateful_exec_laws.specs.Fronting.{RunsAs, HooksAs}
use Rattle.stateful_exec_laws.proofs.earned.Together.{AreEarned-behind}
use Rattle.stateful_exec_laws.proofs.runs.TurnedStands.{live-started}
use Rattle.stateful_exec_laws.specs.Requesting.{steps}
use Rattle.stateful_exec_laws.specs.Ways.{KeepOff}
use Rattle.stateful_exec_tables.specs.Phase.{released_on}
use Rattle.stateful_exec_tables.specs.declared.tables.Released.{Released}
use Rattle.stateful_loop_model.specs.Intake.{Counts, Builds, Hooks}
use Rattle.stateful_loop_model.specs.Moments.{Moment, inner, with_inner}
use Rattle.stateful_loop_laws.specs.Execution.{IsFree, IsPausedFor, IsPausedOver, HasMovedOn, IsPlacedAt, IsPlaced, Executes, NamesBehind, ExecutesBehind}
use Rattle.stateful_loop_laws.specs.Ways.{WaysKept}
use Rattle.stateful_loop_laws.proofs.earned.CandidateStands.{StandsStepped, StandsStepped-by}
use Rattle.stateful_loop_laws.proofs.earned.CandidateTurned.{IsTurned, turned_free, turned_over, turned_moved}
use Rattle.stateful_loop_laws.proofs.carried.RunsGoOver.{RunsGoOver-steps}
use Rattle.stateful_loop_laws.proofs.ways.Turned.{released-off}
use Rattle.stateful_loop_laws.proofs.execution.FrontTurned.{Turned, turns_final}

module _ {B C I P R D H G U : Type 0} (w : Workings B C I P R D H G U) (stored : ℕ → Option (Named B)) (base : w.States) (p : Past B C I)
    (points : Digest → Point w) (point : Point w) (next : w.Ids) (v : Tables B C I R U) where
  -- where execution is placed so, it is placed as the front says
  abbrev Places : (Past B C I → (Digest → Point w) → w.Ids → Tables B C I R U → Type 0) → Option (Front B R U H) → Type 0
  Places IsThere front = (q : Past B C I) (now : Digest → Point w) (ids : w.Ids) (new : Tables B C I R U) → IsThere q now ids new
      → IsPlaced w stored base q now point ids new front

  -- Execution is placed in one of four ways: free, paused for a finalization, so with no run that doesn't go on over it, or moved on to
  -- its block.
  data IsOneOf (front : Option (Front B R U H)) : Type 0 where
    free : IsFree w stored base p points point next v → Places (λ q now ids new. IsFree w stored base q now point ids new) front → IsOneOf front
    over : (b : Named B) → IsPausedFor w stored base p points point next v b
        → Places (λ q now ids new. IsPausedFor w stored base q now point ids new b) front → IsOneOf front
    retained : (b : Named B) → IsPausedOver w stored base p points point next v b
        → Places (λ q now ids new. IsPausedOver w stored base q now point ids new b) front → IsOneOf front
    moved : HasMovedOn w stored base p points point next v → Places (λ q now ids new. HasMovedOn w stored base q now point ids new) front
        → IsOneOf front

  one_at : (b : Named B) (stage : Stage R U H) → IsPlacedAt w stored base p points point next v b stage → IsOneOf (front_at b stage)
  one_at b Begun h = over b h (λ q now ids new is. is)
  one_at b (Running j run) h = retained b h (λ q now ids new is. is)
  one_at b (Ran batch) h = retained b h (λ q now ids new is. is)
  one_at b Advanced h = moved h (λ q now ids new is. is)
  one_at b (Hooking j hook) h = moved h (λ q now ids new is. is)

  one_of : (front : Option (Front B R U H)) → IsPlaced w stored base p points point next v front → IsOneOf front
  one_of None h = free h (λ q now ids new is. is)
  one_of (Some f) h = one_at f.block f.stage h

module _ {B C I P R D H G U : Type 0} (w : Workings B C I P R D H G U) (laws : Laws w.kind) (stored : ℕ → Option (Named B)) (base : w.States)
    (p : Past B C I) (m : Moment w) (e : Executes w stored base p m) (j : ℕ) where
  abbrev q : Past B C I
  q = Came (Turn j) ∷ p

  module _ (kept : WaysKept w stored p m.execution.state) (count : R → ℕ) (then : exec.Moment w) (turn : Steps w count (inner w m) j then) where
    -- the ways of the requests that wait for the run are off the anchor
    off_ways : All (λ (r : Released B C I). KeepOff m.execution.state.anchor (steps r.path)) (released_on j m.execution.state.requests)
    off_ways = released-off w stored p kept.tip m.execution.state kept.ways j

    -- the moment after a turn of a candidate run
    abbrev Stepped : Moment w
    Stepped = record (with_inner w m then) { execution = record m.execution { state = then.state; front = m.execution.front } }

    abbrev Turns : (Past B C I → (Digest → Point w) → w.Ids → Tables B C I R U → Type 0) → Type 0
    Turns = IsTurned w laws stored base p e.points e.point (inner w m) then e.tables e.located e.drawn count j turn off_ways

    together : (IsThere : Past B C I → (Digest → Point w) → w.Ids → Tables B C I R U → Type 0) → Turns IsThere
        → Places w stored base p e.points e.point m.next m.execution.state IsThere m.execution.front → NamesBehind w stored base q m Stepped
        → ExecutesBehind w stored base q m Stepped
    together IsThere t back names = record {
      more = st.more;
      marks_are = st.marks_are;
      executes = record {
        points = st.then;
        point = e.point;
        located = ap (λ x. w.kind.point x) st.members_are ∙ e.located;
        drawn = st.drawn;
        tables = st.tables;
        builds = st.builds;
        fronts = st.fronts;
        placed =
            back (after (Came (Turn j) ∷ p) st.more) st.then then.next then.state
            (t.there m.execution.build m.execution.front st (names st.more st.marks_are));
        alone = e.alone;
      };
      earned = AreEarned-behind w stored base (Came (Turn j) ∷ p) (inner w m) then st.more st.marks_are t.earned;
    }
      where
        st : StandsStepped w laws stored p e.points e.point (inner w m) then j m.execution.build m.execution.front
        st =
            StandsStepped-by w laws stored p e.points e.point
            (inner w m) then j e.tables m.execution.build e.builds m.execution.front e.fronts count turn
            t.names t.round e.located e.drawn t.paused

    by_place : IsOneOf w stored base p e.points e.point m.next m.execution.state m.execution.front → NamesBehind w stored base q m Stepped
        → ExecutesBehind w stored base q m Stepped
    by_place (free h back) =
        together _ (turned_free w laws stored base p e.points e.point (inner w m) then e.tables e.located e.drawn count j turn off_ways h) back
    by_place (over b h back) =
        together _ (turned_over w laws stored base p e.points e.point (inner w m) then e.tables e.located e.drawn count j turn off_ways b h) back
    by_place (retained b h back) =
        let t : Turns (λ q now ids v. IsPausedFor w stored base q now e.point ids v b) =
        turned_over w laws stored base p e.points e.point (inner w m) then e.tables e.located e.drawn count j turn off_ways b h.paused in
        together (λ q now ids v. IsPausedOver w stored base q now e.point ids v b) (record {
          names = t.names;
          round = t.round;
          paused = t.paused;
          there = λ build front st named. record
              { paused = t.there build front st named; over = RunsGoOver-steps w count (inner w m) then j turn h.over };
          earned = t.earned;
        }) back
    by_place (moved h back) =
        together _ (turned_moved w laws stored base p e.points e.point (inner w m) then e.tables e.located e.drawn count j turn off_ways h) back

    stepped : NamesBehind w stored base q m Stepped → ExecutesBehind w stored base q m Stepped
    stepped names = by_place (one_of w stored base p e.points e.point m.next m.execution.state m.execution.front e.placed) names

  -- a live job without a run of a candidate, without a build and a hook is the finalized block's run
  module _ (live : live_job j p ≡ true) (unbuilt : Builds w j m → ⊥) (unhooked : Hooks w j m → ⊥) (no_run : at m.execution.state.runs j ≡ None)
      (off : (b : Named B) (run : R) → IsFinalLive w m.execution.front j b run → ⊥) where
    no_build : (o : Option (Building B C D)) → m.execution.build ≡ o → MatchOption o ⊥ (λ b. b.job ≡ j) → ⊥
    no_build None is own = own
    no_build (Some b) is own = unbuilt (b, record { live = is; job = own })

    no_final : (o : Option (Front B R U H)) → m.execution.front ≡ o → MatchOption o ⊥ (λ f. RunsAs j f.stage) → ⊥
    no_final None is own = own
    no_final (Some f) is own = at_stage f.stage refl own
      where
        at_stage : (stage : Stage R U H) → f.stage ≡ stage → RunsAs j stage → ⊥
        at_stage (Running k run) same is_own =
            off f.block run (record { is = is ∙ ap (λ x. front_at f.block x) same ∙ ap (λ (i : ℕ). front_at f.block (Running i run)) is_own })
        at_stage Begun same is_own = is_own
        at_stage (Ran batch) same is_own = is_own
        at_stage Advanced same is_own = is_own
        at_stage (Hooking k hook) same is_own = is_own

    no_hook : (o : Option (Front B R U H)) → m.execution.front ≡ o → MatchOption o ⊥ (λ f. HooksAs j f.stage) → ⊥
    no_hook None is own = own
    no_hook (Some f) is own = at_stage f.stage refl own
      where
        at_stage : (stage : Stage R U H) → f.stage ≡ stage → HooksAs j stage → ⊥
        at_stage (Hooking k hook) same is_own =
            unhooked
            (f.block, hook, record { is = is ∙ ap (λ x. front_at f.block x) same ∙ ap (λ (i : ℕ). front_at f.block (Hooking i hook)) is_own })
        at_stage Begun same is_own = is_own
        at_stage (Running k run) same is_own = is_own
        at_stage (Ran batch) same is_own = is_own
        at_stage Advanced same is_own = is_own

    by_kind : (kind : JobKind) (d : Digest) → IsLiveJob j kind d p → ⊥
    by_kind Candidate d is =
        let some : IsSome (at m.execution.state.runs j) = e.tables.runs.complete j d is in let no : false ≡ true = subst
        (λ (o : Option (LiveRun B R)). IsSome o) no_run some in absurd (cc)
    by_kind Finalized d is = no_final m.execution.front refl (e.fronts.runs j d is)
    by_kind Build d is = no_build m.execution.build refl (e.builds.complete j d is)
    by_kind Hook d is = no_hook m.execution.front refl (e.fronts.hooks j d is)

    pub none_live : ⊥
    none_live = go (started_for j p) refl
      where
        go : (o : Option JobOf) → started_for j p ≡ o → ⊥
        go None none = live-started j p live none
        go (Some job) is = by_kind job.kind job.digest (record { live = live; is = is })

  module _ (live : live_job j p ≡ true) (kept : WaysKept w stored p m.execution.state) where
    -- Execution stands after a turn of a run, whatever it leads to.
    pub Executes-turns_run : (counts : Counts R D H) (now : Moment w) (then : exec.Moment w) (next : Option (Front B R U H)) → (Builds w j m → ⊥)
        → (Hooks w j m → ⊥) → Completes w counts.run (inner w m) m.execution.front j then next
        → now ≡ record (with_inner w m then) { execution = record m.execution { state = then.state; front = next } } → NamesBehind w stored base
        (Came (Turn j) ∷ p) m now → ExecutesBehind w stored base (Came (Turn j) ∷ p) m now
    Executes-turns_run counts now then next unbuilt unhooked (candidate turn same) is names =
        let so : now ≡ Stepped kept counts.run then turn =
        is ∙ ap
        (λ (o : Option (Front B R U H)). record (with_inner w m then) { execution = record m.execution { state = then.state; front = o } }) same in
        subst (λ (n : Moment w). ExecutesBehind w stored base (Came (Turn j) ∷ p) m n) (sym so)
        (stepped kept counts.run then turn (subst (λ (n : Moment w). NamesBehind w stored base (Came (Turn j) ∷ p) m n) so names))
    Executes-turns_run counts now then next unbuilt unhooked (finalized no_run (turned {b = b} {run = run} on had settles) same) is names =
        let so : now ≡ Turned w stored base p m e j then.marks next =
        is ∙ ap (λ (n : exec.Moment w). record (with_inner w m n) { execution = record m.execution { state = n.state; front = next } }) same in
        subst (λ (n : Moment w). ExecutesBehind w stored base (Came (Turn j) ∷ p) m n) (sym so)
        (turns_final w stored base p m e j then.marks next
        (subst (λ (n : Moment w). NamesBehind w stored base (Came (Turn j) ∷ p) m n) so names) counts b run on (turned on had settles))
    Executes-turns_run counts now then next unbuilt unhooked (finalized no_run (not_live off marks after_is) same) is names =
        absurd (none_live live unbuilt unhooked no_run off)
