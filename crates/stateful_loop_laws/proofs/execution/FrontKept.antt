-- Execution stands behind the start of the finalized block's run, and once the application has observed the states behind its block.
use Rattle.std.proofs.Common.{◌≡◌, ◌++◌, ℕ, Bool, List, [], ◌∷◌, Option, Some, refl, sym, ap, subst}
use Rattle.stateful_base.specs.Names.{Named}
use Rattle.stateful_db.specs.Laws.{Laws}
use Rattle.stateful_db.specs.declared.application.Hooked.{Hooked}
use Rattle.stateful_db.specs.declared.application.Hooked.TheVariants as hooked
use Rattle.stateful_history.specs.Past.{Past, after}
use Rattle.stateful_history.specs.declared.mark.JobKind.TheVariants as job
use Rattle.stateful_history.specs.declared.mark.Mark.{Mark}
use Rattle.stateful_history.specs.declared.mark.Mark.TheVariants.{Started}
use Rattle.stateful_exec_model.specs.Finalizing.{front_at, RunsFinal, HooksOn}
use Rattle.stateful_exec_tables.specs.Pausing.{AwaitsRuns}
use Rattle.stateful_exec_model.specs.Workings.{Workings}
use Rattle.stateful_exec_model.specs.declared.front.Front.{Front}
use Rattle.stateful_exec_model.specs.declared.front.Stage.TheVariants.{Begun, Advanced, Hooking}
use Rattle.stateful_exec_tables.specs.declared.state.Tables.{Tables}
use Rattle.stateful_exec_laws.specs.Fronting.{RunsTakeTurns, FrontStands}
use Rattle.stateful_exec_laws.proofs.earned.Left.{IsLeft}
use Rattle.stateful_exec_laws.proofs.front.Rules.{StandsWithFront, StandsWithFront-runs, StandsWithFront-observes}
use Rattle.stateful_loop_model.specs.Moments.{Moment, inner}
use Rattle.stateful_loop_model.specs.Rules.{finalizing, RunsFinalized, ObservesBlock}
use Rattle.stateful_loop_model.specs.declared.tables.Finalizing.{Finalizing}
use Rattle.stateful_loop_laws.specs.Execution.{IsPausedFor, HasMovedOn, IsPlaced, Executes, NamesBehind, ExecutesBehind}
use Rattle.stateful_loop_laws.proofs.execution.FrontBehind.{unbuilt, front_mild, ExecutesBehind-front}
use Rattle.stateful_loop_laws.proofs.duly.JobMarks.{MakesOfJobs, makes_none, makes_started, IsGrown-marks}
use Rattle.stateful_loop_laws.proofs.places.PlacedBehind.{IsPausedFor-left, HasMovedOn-left}
use Rattle.stateful_loop_laws.proofs.carried.RunsGoOver.{RunsGoOver-begins}

module _ {B C I P R D H G U : Type 0} (w : Workings B C I P R D H G U) (b : Named B) (old new : Tables B C I R U) (before now : List (Mark B))
    (next : Option (Front B R U H)) (live : Bool) where
  -- what is left to do behind the block: its marks, what it leaves of the tables, and how far the finalization has come then
  hooks_made : (q : Past B C I) (hook : Hooked H) → HooksOn w b hook old new before now next live → MakesOfJobs q before now
  hooks_made q hooked.Done is = makes_none q before now is.1
  hooks_made q (hooked.Pending hook) is = makes_started q before now old.next_job job.Hook b.digest (λ same. cc) is.2

  hooks_left : (hook : Hooked H) → HooksOn w b hook old new before now next live → IsLeft old new × (new.requests ≡ old.requests)
  hooks_left hooked.Done is = (
    record {
      anchor = ap (λ (v : Tables B C I R U). v.anchor) is.0;
      cache = ap (λ (v : Tables B C I R U). v.cache) is.0;
      pause = ap
          (λ (v : Tables B C I R U). v.pause) is.0;
    },
    ap
        (λ (v : Tables B C I R U). v.requests) is.0,
  )
  hooks_left (hooked.Pending hook) is = (
    record {
      anchor = ap (λ (v : Tables B C I R U). v.anchor) is.0;
      cache = ap (λ (v : Tables B C I R U). v.cache) is.0;
      pause = ap
          (λ (v : Tables B C I R U). v.pause) is.0;
    },
    ap
        (λ (v : Tables B C I R U). v.requests) is.0,
  )

  hooks_there : (IsThere : Option (Front B R U H) → Type 0) (hook : Hooked H) → HooksOn w b hook old new before now next live
      → ((j : ℕ) (h : H) → IsThere (front_at b (Hooking j h))) → IsThere (front_at b Advanced) → IsThere next
  hooks_there IsThere hooked.Done is on done = subst IsThere (sym is.2) done
  hooks_there IsThere (hooked.Pending hook) is on done = subst IsThere (sym is.3) (on old.next_job hook)

module _ {B C I P R D H G U : Type 0} (w : Workings B C I P R D H G U) (laws : Laws w.kind) (stored : ℕ → Option (Named B)) (base : w.States)
    (p : Past B C I) (m : Moment w) (e : Executes w stored base p m) where
  -- where the finalization has come to, as it is placed
  placed_at : (front : Option (Front B R U H)) → m.execution.front ≡ front
      → IsPlaced w stored base p e.points e.point m.next m.execution.state front
  placed_at front is = subst (λ (o : Option (Front B R U H)). IsPlaced w stored base p e.points e.point m.next m.execution.state o) is e.placed

  fronts_at : (front : Option (Front B R U H)) → m.execution.front ≡ front → FrontStands w stored p e.point m.next m.execution.state.anchor front
  fronts_at front is = subst (λ (o : Option (Front B R U H)). FrontStands w stored p e.point m.next m.execution.state.anchor o) is e.fronts

  module _ (b : Named B) (begun : m.execution.front ≡ front_at b Begun) (state : Tables B C I R U) (front : Option (Front B R U H)) (next : w.Ids)
      (runs : RunsFinal w b m.members m.next next m.execution.state state front) where
    abbrev Run : Moment w
    Run = record m {
      execution = record m.execution { state = state; front = front };
      next = next;
      marks = m.marks ++ Started m.execution.state.next_job job.Finalized b.digest ∷ [];
    }

    runs_so : RunsTakeTurns w → AwaitsRuns w.header m.execution.state 0 → NamesBehind w stored base p m Run → ExecutesBehind w stored base p m Run
    runs_so costs awaits names =
        let f : StandsWithFront w stored e.points e.point p (inner w m) (inner w Run) front =
        StandsWithFront-runs w stored e.points e.point p (inner w m)
        (inner w Run) e.tables e.located laws.ids.issued_other e.drawn costs b front runs refl refl (fronts_at (front_at b Begun) begun) in
        let made : MakesOfJobs p m.marks Run.marks =
        makes_started p m.marks Run.marks m.execution.state.next_job job.Finalized b.digest (λ same. cc) refl in
        let before : IsPausedFor w stored base p e.points e.point m.next m.execution.state b = placed_at (front_at b Begun) begun in
        let then : IsPausedFor w stored base (after p f.more) e.points e.point next state b =
        IsPausedFor-left w stored base p (after p f.more) e.point
        (IsGrown-marks w stored base p e.point f.more (front_mild w stored base p m e p Run (λ k d on. on) f made) (names f.more f.marks_are))
        e.points e.points m.next next m.execution.state state f.tables (ap (λ (v : Tables B C I R U). v.anchor) runs.state)
        (record {
          anchor = ap (λ (v : Tables B C I R U). v.anchor) runs.state;
          cache = ap (λ (v : Tables B C I R U). v.cache) runs.state;
          pause = ap
              (λ (v : Tables B C I R U). v.pause) runs.state;
        })
        (ap (λ (v : Tables B C I R U). v.requests) runs.state) b before in
        ExecutesBehind-front w stored base p m e p Run (λ k d on. on) f made (unbuilt w stored base p m e _ begun) refl
        (runs.keeps (e.point ∷ []) e.drawn)
        (subst (λ (o : Option (Front B R U H)). IsPlaced w stored base (after p f.more) e.points e.point next state o) (sym runs.front_is)
        (record {
          paused = then;
          over = RunsGoOver-begins w b m.members m.next next m.execution.state state front before.boundary before.pause_is awaits runs;
        }))

  -- Execution stands behind the start of the finalized block's run, for which no candidate run is awaited.
  pub Executes-runs : RunsTakeTurns w → (b : Named B) (now : Moment w) → m.execution.front ≡ front_at b Begun
      → AwaitsRuns w.header m.execution.state 0
      → RunsFinalized w b m now
      → NamesBehind w stored base p m now → ExecutesBehind w stored base p m now
  Executes-runs costs b now begun awaits r names =
      subst (λ (n : Moment w). ExecutesBehind w stored base p m n) (sym r.becomes)
      (runs_so b begun r.state r.front r.next r.runs costs awaits (subst (λ (n : Moment w). NamesBehind w stored base p m n) r.becomes names))

  module _ (f : Finalizing B G) (captured : G) (advanced : m.execution.front ≡ front_at f.block Advanced) (now : Moment w)
      (o : ObservesBlock w f captured m now) where
    abbrev Observed : Moment w
    Observed =
        record m {
          execution = record m.execution { state = o.state; front = o.front };
          loop = record m.loop {
            front = Some
                (finalizing f.ticket f.block);
          };
          marks = o.marks;
        }

    observes_so : (before : w.States) → w.works.captures captured (w.context_of f.block.block) f.block.block before
        → NamesBehind w stored base p m Observed → ExecutesBehind w stored base p m Observed
    observes_so before read names =
        let s : StandsWithFront w stored e.points e.point p (inner w m) (inner w Observed) o.front =
        StandsWithFront-observes w stored e.points e.point p (inner w m)
        (inner w Observed) e.tables e.located f.block captured o.front o.live o.observes before read refl refl
        (fronts_at (front_at f.block Advanced) advanced) in
        let made : MakesOfJobs p m.marks o.marks =
        hooks_made w f.block m.execution.state o.state m.marks o.marks o.front o.live p o.observes.hook o.observes.hooks_on in
        let left : IsLeft m.execution.state o.state × (o.state.requests ≡ m.execution.state.requests) =
        hooks_left w f.block m.execution.state o.state m.marks o.marks o.front o.live o.observes.hook o.observes.hooks_on in
        let then : HasMovedOn w stored base (after p s.more) e.points e.point m.next o.state =
        HasMovedOn-left w stored base p (after p s.more) e.point
        (IsGrown-marks w stored base p e.point s.more (front_mild w stored base p m e p Observed (λ k d on. on) s made) (names s.more s.marks_are))
        e.points e.points m.next m.next m.execution.state o.state s.tables left.0.anchor left.0 left.1
        (placed_at (front_at f.block Advanced) advanced) in
        ExecutesBehind-front w stored base p m e p Observed (λ k d on. on) s made (unbuilt w stored base p m e _ advanced) refl e.drawn
        (hooks_there w f.block m.execution.state o.state m.marks o.marks o.front o.live
        (λ x. IsPlaced w stored base (after p s.more) e.points e.point m.next o.state x) o.observes.hook o.observes.hooks_on (λ j h. then) then)

    -- Execution stands once the application has observed the states behind the block, where what was captured was read in the context
    -- in which they are observed, of some states before.
    pub Executes-observes : (before : w.States) → w.works.captures captured (w.context_of f.block.block) f.block.block before
        → NamesBehind w stored base p m now → ExecutesBehind w stored base p m now
    Executes-observes before read names =
        subst (λ (n : Moment w). ExecutesBehind w stored base p m n) (sym o.becomes)
        (observes_so before read (subst (λ (n : Moment w). NamesBehind w stored base p m n) o.becomes names))
