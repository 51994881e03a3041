-- Execution stands after a cancel.
use Rattle.std.proofs.Common.{◌≡◌, ◌==◌, ◌⊎◌, ◌++◌, not, inl, inr, ℕ, List, [], ◌∷◌, All, Option, None, Some, IsSome, MatchOption, refl, sym, subst, arith}
use Rattle.std.proofs.lemmas.List.Elements.{All-cons, All-head, All-nil, All-tail, All-weaker, All-filter}
use Rattle.stateful_base.specs.Names.{Named}
use Rattle.stateful_base.specs.declared.digest.Digest.{Digest}
use Rattle.stateful_history.specs.Jobs.{IsLiveJob}
use Rattle.stateful_history.specs.Met.{TrueNames}
use Rattle.stateful_history.specs.Past.{Past, Came, Made, after}
use Rattle.stateful_history.specs.declared.event.Event.TheVariants.{Cancel}
use Rattle.stateful_history.specs.declared.mark.How.TheVariants.{Cancelled}
use Rattle.stateful_history.specs.declared.mark.JobKind.TheVariants.{Finalized, Hook}
use Rattle.stateful_history.specs.declared.mark.Mark.{Mark}
use Rattle.stateful_history.specs.declared.mark.Mark.TheVariants.{Withdrawn, Ended}
use Rattle.stateful_table.specs.Table.{at}
use Rattle.stateful_exec_model.specs.Built.{GivesUp, building, asking}
use Rattle.stateful_exec_tables.specs.Cancelling.{Cancels}
use Rattle.stateful_exec_tables.specs.Cancelling.{idle, withdraws, leaves, ends, unqueued}
use Rattle.stateful_exec_model.specs.Moments as exec
use Rattle.stateful_exec_walk.specs.Path.{Path}
use Rattle.stateful_exec_tables.specs.Tables.{taken}
use Rattle.stateful_exec_model.specs.Workings.{Workings, Point}
use Rattle.stateful_exec_model.specs.declared.building.Building.{Building}
use Rattle.stateful_exec_model.specs.declared.front.Front.{Front}
use Rattle.stateful_exec_tables.specs.declared.state.Tables.{Tables}
use Rattle.stateful_exec_tables.specs.declared.tables.LiveRun.{LiveRun}
use Rattle.stateful_exec_tables.specs.declared.tables.Phase.TheVariants.{Fetching, Executing}
use Rattle.stateful_exec_tables.specs.declared.tables.Requested.{Requested}
use Rattle.stateful_exec_laws.specs.Setting.{setting}
use Rattle.stateful_exec_laws.specs.Fronting.{FrontStands}
use Rattle.stateful_exec_laws.specs.Requesting.{IsInPhase, IsStanding}
use Rattle.stateful_exec_laws.proofs.builds.Rules.{StandsWithBuild-gives_up}
use Rattle.stateful_exec_laws.proofs.builds.Turns.{no_candidate}
use Rattle.stateful_exec_laws.proofs.requests.Cancelled.{withdrawn-IsCalm, ended-IsCalm}
use Rattle.stateful_exec_laws.proofs.earned.Left.{IsLeft}
use Rattle.stateful_exec_laws.proofs.earned.Together.{IsNoneTrue, AreEarned-none}
use Rattle.stateful_exec_laws.proofs.pauses.EventsPass.{FrontStands-event}
use Rattle.stateful_exec_laws.proofs.front.Left.{stage-live}
use Rattle.stateful_exec_laws.proofs.front.Passes.{IsFrontJob, NoTicket, FrontStands-passes}
use Rattle.stateful_exec_laws.proofs.ended.GivenUp.{cancel-IsCalm, cancel-LeavesJob}
use Rattle.stateful_exec_laws.proofs.pauses.Passing.{PassesBy, one_beside}
use Rattle.stateful_exec_laws.proofs.pauses.PassingRules.{PassesBy-cancels}
use Rattle.stateful_exec_laws.proofs.runs.Removing.{All-at}
use Rattle.stateful_loop_model.specs.Intake.{Cancels as CancelsIn}
use Rattle.stateful_loop_model.specs.Moments.{Moment, inner}
use Rattle.stateful_loop_laws.specs.Execution.{FetchesNone, RunsGoOver, IsPlaced, Executes, ExecutesBehind}
use Rattle.stateful_loop_laws.proofs.execution.Kept.{names-on, Executes-names}
use Rattle.stateful_loop_laws.proofs.carried.RunsGoOver.{RunsGoOver-cancels}
use Rattle.stateful_loop_laws.proofs.places.Places.{IsPlaced-left, IsPlaced-calm, placed-names}

-- the mark of what a cancel ends
abbrev pub IsGivenUpBy : {B : Type 0} → Mark B → Type 0
IsGivenUpBy (Withdrawn f) = Unit {0}
IsGivenUpBy (Ended j Cancelled) = Unit {0}
IsGivenUpBy mark = ⊥

not_true : {B : Type 0} (mark : Mark B) → IsGivenUpBy mark → IsNoneTrue mark
not_true (Withdrawn f) given = tt
not_true (Ended j Cancelled) given = tt
not_true mark given = absurd given

-- what a cancel leaves of the tables, and its marks
record Gives {B C I R U : Type 0} (old new : Tables B C I R U) (marks : List (Mark B)) : Type 0 where
  left : IsLeft old new
  settled : FetchesNone old.requests → FetchesNone new.requests
  given : All (λ mark. IsGivenUpBy mark) marks

one_given : {B : Type 0} (mark : Mark B) → IsGivenUpBy mark → All (λ x. IsGivenUpBy x) (mark ∷ [])
one_given mark given = All-cons (λ x. IsGivenUpBy x) mark [] given (All-nil (λ x. IsGivenUpBy x))

module _ {B C I R U : Type 0} (old new : Tables B C I R U) (t : ℕ) where
  kept_none : FetchesNone old.requests → FetchesNone (taken old t).requests
  kept_none none = All-filter (λ (e : ℕ × Requested B C I). not (e.0 == t)) (λ e. (f : ℕ) → e.1.phase ≡ Fetching f → ⊥) old.requests none

  gives_taken : (marks : List (Mark B)) → All (λ mark. IsGivenUpBy mark) marks → Gives old (taken old t) marks
  gives_taken marks given = record { left = record { anchor = refl; cache = refl; pause = refl }; settled = kept_none; given = given }

  gives_asking : (marks : List (Mark B)) → Cancels old new t marks → Gives old new marks
  gives_asking marks (idle r there is_idle new_is marks_is) = rw (new_is, marks_is) (gives_taken [] (All-nil (λ x. IsGivenUpBy x)))
  gives_asking marks (withdraws r f fetches new_is marks_is) = rw (new_is, marks_is) (gives_taken _ (one_given (Withdrawn f) tt))
  gives_asking marks (leaves r j path there executing others new_is marks_is) = rw (new_is, marks_is) (gives_taken [] (All-nil (λ x. IsGivenUpBy x)))
  gives_asking marks (ends r j path there executing last new_is marks_is) =
      rw (new_is, marks_is)
      (record { left = record { anchor = refl; cache = refl; pause = refl }; settled = kept_none; given = one_given (Ended j Cancelled) tt })
  gives_asking marks (unqueued none new_is marks_is) =
      rw (new_is, marks_is)
      (record { left = record { anchor = refl; cache = refl; pause = refl }; settled = kept_none; given = All-nil (λ x. IsGivenUpBy x) })

  gives : {D : Type 0} (before last : Option (Building B C D)) (marks : List (Mark B)) → GivesUp old new before last t marks → Gives old new marks
  gives before last marks (building {b = b} for new_is last_is marks_is) =
      rw (new_is, marks_is)
      (record {
        left = record { anchor = refl; cache = refl; pause = refl };
        settled = λ none. none;
        given = one_given
            (Ended b.job Cancelled) tt;
      })
  gives before last marks (asking off cancels same) = gives_asking marks cancels

module _ {B C I P R D H G U : Type 0} (w : Workings B C I P R D H G U) (stored : ℕ → Option (Named B)) (base : w.States) where
  -- execution is paused for what it was behind such marks
  placed_given : (points : Digest → Point w) (point : Point w) (next : w.Ids) (v : Tables B C I R U) (front : Option (Front B R U H))
      (marks : List (Mark B)) (p : Past B C I) → All (λ mark. IsGivenUpBy mark) marks → IsPlaced w stored base p points point next v front
      → IsPlaced w stored base (after p marks) points point next v front
  placed_given points point next v front [] p given h = h
  placed_given points point next v front (mark ∷ marks) p given h =
      placed_given points point next v front marks (Made mark ∷ p) (All-tail (λ x. IsGivenUpBy x) mark marks given)
      (one mark (All-head (λ x. IsGivenUpBy x) mark marks given))
    where
      one : (x : Mark B) → IsGivenUpBy x → IsPlaced w stored base (Made x ∷ p) points point next v front
      one (Withdrawn f) is = IsPlaced-calm w stored base p (Made (Withdrawn f)) (withdrawn-IsCalm (setting w stored) p f) refl refl
          (names-on (setting w stored) p (Made (Withdrawn f)) (λ b no. no)
          (placed-names w stored base p points point next v front h)) points point next v front h
      one (Ended j Cancelled) is = IsPlaced-calm w stored base p (Made (Ended j Cancelled)) (ended-IsCalm (setting w stored) p j) refl refl
          (names-on (setting w stored) p (Made (Ended j Cancelled)) (λ b no. no)
          (placed-names w stored base p points point next v front h)) points point next v front h
      one x off = absurd off

  module _ (p : Past B C I) (t : ℕ) (m : Moment w) (h : Executes w stored base p m) where
    -- after a cancel each candidate run that is left goes on over the finalization
    over : (new : Tables B C I R U) (before last : Option (Building B C D)) (marks : List (Mark B))
        → GivesUp m.execution.state new before last t marks → RunsGoOver w.header m.execution.state → RunsGoOver w.header new
    over new before last marks (building for new_is last_is marks_is) h = rw new_is h
    over new before last marks (asking off cancels same) h = RunsGoOver-cancels w m.execution.state new t marks cancels h

    abbrev given : Past B C I
    given = Came (Cancel t) ∷ p

    abbrev v : Tables B C I R U
    v = m.execution.state

    -- the job of the finalization is no candidate's
    not_front : (front : Option (Front B R U H)) → FrontStands w stored p h.point m.next v.anchor front
        → (r : Requested B C I) (j : ℕ) (path : Path B) → at v.requests t ≡ Some r → r.phase ≡ Executing j path → IsFrontJob front j → ⊥
    not_front None f r j path there executing own = own
    not_front (Some x) f r j path there executing own = subst (λ o. MatchOption o ⊥ (λ (run : LiveRun B R). run.block ≡ path.parent)) none phase.0
      where
        standing : IsStanding w stored p v.runs t r
        standing = All-at (λ (e : ℕ × Requested B C I). IsStanding w stored p v.runs e.0 e.1) v.requests t r there h.tables.requests.each

        phase : IsInPhase w stored p v.runs t r.request (Executing j path)
        phase = subst (λ y. IsInPhase w stored p v.runs t r.request y) executing standing.phase

        live : (d : Digest) × (IsLiveJob j Finalized d p ⊎ IsLiveJob j Hook d p)
        live = stage-live w stored p h.point m.next m.next (λ c y. y) v.anchor x.block x.stage f.at_stage j own

        none : at v.runs j ≡ None
        none = elim live.1 [
          | inl run ↦ no_candidate w stored p h.points h.point m.next v h.tables j Finalized live.0 run.is (λ is. cc)
          | inr hook ↦ no_candidate w stored p h.points h.point m.next v h.tables j Hook live.0 hook.is (λ is. cc)
        ]

    fronts_given : FrontStands w stored given h.point m.next v.anchor m.execution.front
    fronts_given = FrontStands-event w stored p (Came (Cancel t)) (cancel-LeavesJob p t) h.point m.next v.anchor m.execution.front refl h.fronts

    placed : IsPlaced w stored base given h.points h.point m.next v m.execution.front
    placed = IsPlaced-calm w stored base p (Came (Cancel t)) (cancel-IsCalm (setting w stored) p t) refl refl
        (names-on (setting w stored) p (Came (Cancel t)) (λ b no. no)
        (Executes-names w stored base p m h)) h.points h.point m.next v m.execution.front h.placed

    module _ (new : Tables B C I R U) (marks : List (Mark B)) where
      abbrev then : exec.Moment w
      then = record (inner w m) { state = new; marks = m.marks ++ marks }

      -- what the cancel does says nothing of the finalization
      passes : (last : Option (Building B C D)) → GivesUp v new m.execution.build last t marks
          → PassesBy w (IsFrontJob m.execution.front) NoTicket (inner w m) then
      passes last (building {b = b} for new_is last_is marks_is) =
          let none : m.execution.front ≡ None = h.alone (rw for.live refl) in
          rw (new_is, marks_is) (record {
            more = Ended b.job Cancelled ∷ [];
            marks_are = refl;
            beside = one_beside w (IsFrontJob m.execution.front) NoTicket (Ended b.job Cancelled)
                (λ own. subst (λ (f : Option (Front B R U H)). IsFrontJob f b.job) none own);
            anchor = refl;
            grows = λ d c. c;
            elsewhere = λ u own e. e;
            ids = λ c d. d;
            jobs = omega arith;
          })
      passes last (asking off cancels same) =
          PassesBy-cancels w (IsFrontJob m.execution.front) NoTicket (inner w m) t (λ no. no) (not_front m.execution.front h.fronts) new marks cancels

      still_alone : (last : Option (Building B C D)) → GivesUp v new m.execution.build last t marks → IsSome last → m.execution.front ≡ None
      still_alone last (building for new_is last_is marks_is) some = let off = subst (λ (o : Option (Building B C D)). IsSome o) last_is some in cc
      still_alone last (asking off cancels same) some = h.alone (rw (sym same) some)

    cancelled : (now : Moment w) → CancelsIn w t m now → ExecutesBehind w stored base given m now
    cancelled now c =
        let g : Gives v c.state c.marks = gives v c.state t m.execution.build c.build c.marks c.gives_up in
        let stands =
        StandsWithBuild-gives_up w stored p h.points h.point
        (inner w m) h.tables t c.state c.marks m.execution.build c.build h.builds c.gives_up in
        let names : TrueNames (setting w stored) (after given c.marks) =
        placed-names w stored base (after given c.marks) h.points h.point m.next v m.execution.front
        (placed_given h.points h.point m.next v m.execution.front c.marks given g.given placed) in
        subst (λ (n : Moment w). ExecutesBehind w stored base given m n) (sym c.becomes) (record {
          more = c.marks;
          marks_are = refl;
          executes = record {
            points = h.points;
            point = h.point;
            located = h.located;
            drawn = h.drawn;
            tables = stands.0;
            builds = stands.1;
            fronts = FrontStands-passes w stored h.point m.execution.front given (inner w m) (then c.state c.marks) c.marks refl
                (passes c.state c.marks c.build c.gives_up) fronts_given;
            placed = IsPlaced-left w stored base (after given c.marks)
                (after given c.marks) h.points h.point m.next m.next v c.state g.left refl refl refl (λ b met. met) names
                (λ pause s. s) g.settled
                (over c.state m.execution.build c.build c.marks c.gives_up) m.execution.front
                (placed_given h.points h.point m.next v m.execution.front c.marks given g.given placed);
            alone = still_alone c.state c.marks c.build c.gives_up;
          };
          earned = AreEarned-none w stored base given c.marks (All-weaker (λ (x : Mark B). IsGivenUpBy x)
              (λ x. IsNoneTrue x) not_true c.marks g.given);
        })

  -- execution stands after a cancel
  pub Executes-cancels : (p : Past B C I) (t : ℕ) (m now : Moment w) → Executes w stored base p m → CancelsIn w t m now
      → ExecutesBehind w stored base (Came (Cancel t) ∷ p) m now
  Executes-cancels p t m now h c = cancelled p t m h now c
