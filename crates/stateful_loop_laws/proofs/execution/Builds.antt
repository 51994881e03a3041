-- Execution stands behind the start of a build, and behind a decline in its place.
use Rattle.std.proofs.Common.{◌≡◌, ◌++◌, ℕ, [], ◌∷◌, All, Option, None, Some, IsSome, refl, sym, subst}
use Rattle.std.proofs.lemmas.List.Elements.{All-cons, All-nil}
use Rattle.stateful_base.specs.Names.{Named}
use Rattle.stateful_db.specs.Laws.{Laws}
use Rattle.stateful_history.specs.Joined.{TrueIsEarned}
use Rattle.stateful_history.specs.Met.{Brings}
use Rattle.stateful_history.specs.Past.{Past, Made}
use Rattle.stateful_history.specs.declared.mark.JobKind.TheVariants.{Build, Finalized, Hook}
use Rattle.stateful_history.specs.declared.mark.Mark.{Mark}
use Rattle.stateful_history.specs.declared.mark.Mark.TheVariants.{Started, Declined}
use Rattle.stateful_table.specs.Table.{at}
use Rattle.stateful_exec_model.specs.Building.{StartsBuild}
use Rattle.stateful_exec_tables.specs.Queueing.{unqueued}
use Rattle.stateful_exec_model.specs.Workings.{Workings}
use Rattle.stateful_exec_model.specs.declared.building.Building.{Building}
use Rattle.stateful_exec_model.specs.declared.front.Front.{Front}
use Rattle.stateful_exec_tables.specs.declared.state.Tables.{Tables}
use Rattle.stateful_exec_tables.specs.declared.tables.Requested.{Requested}
use Rattle.stateful_exec_laws.specs.Setting.{setting}
use Rattle.stateful_exec_laws.specs.Building.{BuildsTakeTurns, BuildStands}
use Rattle.stateful_exec_laws.specs.Fronting.{FrontStands}
use Rattle.stateful_exec_laws.specs.Standing.{TablesStand}
use Rattle.stateful_exec_laws.proofs.builds.Starts.{TablesStand-declines, BuildStands-declines, TablesStand-builds, BuildStands-builds}
use Rattle.stateful_exec_laws.proofs.earned.Carried.{IsMild}
use Rattle.stateful_exec_laws.proofs.earned.Left.{IsLeft}
use Rattle.stateful_exec_laws.proofs.front.Left.{FrontStands-spared}
use Rattle.stateful_exec_laws.proofs.runs.Sparing.{live-started_other}
use Rattle.stateful_loop_model.specs.Moments.{Moment}
use Rattle.stateful_loop_model.specs.Rules.{Builds, starts, declines}
use Rattle.stateful_loop_model.specs.declared.message.Action.TheVariants as action
use Rattle.stateful_loop_laws.specs.Execution.{IsFree, IsPlaced, Executes, ExecutesBehind}
use Rattle.stateful_loop_laws.specs.Tickets.{ActionStands}
use Rattle.stateful_loop_laws.proofs.execution.Kept.{names-on, Executes-names}
use Rattle.stateful_loop_laws.proofs.places.Places.{IsFree-mild}

module _ {B C I P R D H G U : Type 0} (w : Workings B C I P R D H G U) (laws : Laws w.kind) (stored : ℕ → Option (Named B)) (base : w.States) where
  module _ (costs : BuildsTakeTurns w) (p : Past B C I) (provider : P) (t : ℕ) (m : Moment w) (front : m.execution.front ≡ None)
      (unlive : m.execution.build ≡ None)
      (queued : ActionStands w stored p m.execution.state m.execution.build (action.Build t)) (h : Executes w stored base p m) where
    abbrev v : Tables B C I R U
    v = m.execution.state

    fronts_free : FrontStands w stored p h.point m.next v.anchor None
    fronts_free = subst (λ (f : Option (Front B R U H)). FrontStands w stored p h.point m.next v.anchor f) front h.fronts

    free : IsFree w stored base p h.points h.point m.next v
    free = subst (λ (f : Option (Front B R U H)). IsPlaced w stored base p h.points h.point m.next v f) front h.placed

    one_mild : (mark : Mark B) → IsMild mark → All (λ x. IsMild x) (mark ∷ [])
    one_mild mark mild = All-cons (λ x. IsMild x) mark [] mild (All-nil (λ x. IsMild x))

    -- a queued build is in no other table
    absent : at v.requests t ≡ None
    absent = go (at v.requests t) refl
      where
        go : (o : Option (Requested B C I)) → at v.requests t ≡ o → o ≡ None
        go None is = refl
        go (Some r) is =
            let none : at v.queued t ≡ None = h.tables.once t (rw is refl) in
            let some : IsSome (at v.queued t) = queued.0 in
            let off = rw none at some in cc

    -- after one mark that is mild, execution stands where its parts do
    stands_with : (mark : Mark B) → IsMild mark → (next : w.Ids) (state : Tables B C I R U) (build : Option (Building B C D)) (now : Moment w)
        → IsLeft v state → w.kind.issued next (h.point ∷ [])
        → TablesStand w stored (Made mark ∷ p) h.points h.point next state → BuildStands w stored (Made mark ∷ p) h.points next state build
        → FrontStands w stored (Made mark ∷ p) h.point next state.anchor None
        → ((b : Named B) → Brings {C = C} {I = I} (Made mark) b → ⊥) → TrueIsEarned (setting w stored) base p mark
        → now ≡ record m { execution = record m.execution { state = state; build = build }; next = next; marks = m.marks ++ mark ∷ [] }
        → ExecutesBehind w stored base p m now
    stands_with mark mild next state build now left drawn tables builds fronts brings earned is =
        subst (λ (n : Moment w). ExecutesBehind w stored base p m n) (sym is) (record {
          more = mark ∷ [];
          marks_are = refl;
          executes = record {
            points = h.points;
            point = h.point;
            located = h.located;
            drawn = drawn;
            tables = tables;
            builds = builds;
            fronts = subst (λ (f : Option (Front B R U H)). FrontStands w stored (Made mark ∷ p) h.point next state.anchor f) (sym front) fronts;
            placed = subst (λ (f : Option (Front B R U H)). IsPlaced w stored base (Made mark ∷ p) h.points h.point next state f) (sym front)
                (IsFree-mild w stored base p h.points h.point m.next v (mark ∷ []) (one_mild mark mild)
                (names-on (setting w stored) p (Made mark) brings (Executes-names w stored base p m h)) next state left tables free);
            alone = λ some. front;
          };
          earned = (earned, tt);
        })

    begins : (now : Moment w) (next : w.Ids) (state : Tables B C I R U) (build : Option (Building B C D))
        (s : StartsBuild w t provider m.members m.next next v state build)
        → now ≡ record m {
          execution = record m.execution { state = state; build = build };
          next = next;
          marks = m.marks ++ Started v.next_job Build s.proposal.ancestry.first.digest ∷ [];
        } → ExecutesBehind w stored base p m now
    begins now next state build s is =
        stands_with (Started v.next_job Build s.proposal.ancestry.first.digest) tt next state build now
        (rw s.state (record { anchor = refl; cache = refl; pause = refl })) (s.keeps _ h.drawn)
        (TablesStand-builds w stored p h.points h.point m.next v h.tables t queued.1 laws.ids.issued_other m.members h.located h.drawn provider
        next state build s)
        (BuildStands-builds w stored p h.points h.point m.next v h.tables t queued.1 laws.ids.issued_other m.members h.located h.drawn provider
        next state build s costs
        (subst (λ (o : Option (Building B C D)). BuildStands w stored p h.points m.next v o) unlive h.builds))
        (rw s.state (FrontStands-spared w stored p
        (Made (Started v.next_job Build s.proposal.ancestry.first.digest)) h.point m.next next s.keeps v.anchor None (record {
          begun = refl;
          jobs = tt;
          runs = λ j e live. live-started_other p v.next_job Build s.proposal.ancestry.first.digest Finalized (λ x. cc) j e live;
          hooks = λ j e live. live-started_other p v.next_job Build s.proposal.ancestry.first.digest Hook (λ x. cc) j e live;
        }) fronts_free))
        (λ b no. no) tt is

    refuses : (now : Moment w) → now ≡ record m { execution = record m.execution { state = unqueued v t }; marks = m.marks ++ Declined t ∷ [] }
        → ExecutesBehind w stored base p m now
    refuses now is =
        stands_with (Declined t) tt m.next (unqueued v t) m.execution.build now (record { anchor = refl; cache = refl; pause = refl }) h.drawn
        (TablesStand-declines w stored p h.points h.point m.next v h.tables t queued.1 absent)
        (BuildStands-declines w stored p h.points h.point m.next v h.tables t queued.1 absent m.execution.build queued.2 h.builds)
        (FrontStands-spared w stored p (Made (Declined t)) h.point m.next m.next (λ c x. x) v.anchor None (record {
          begun = refl;
          jobs = tt;
          runs = λ j e live. record { live = live.live; is = live.is };
          hooks = λ j e live. record { live = live.live; is = live.is };
        }) fronts_free)
        (λ b no. no) tt is

    -- a queued build starts, or its proposal is declined
    pub Executes-builds : (now : Moment w) → Builds w provider t m now → ExecutesBehind w stored base p m now
    Executes-builds now (starts {state = state} {build = build} {next = next} s is) = begins now next state build s is
    Executes-builds now (declines none is) = refuses now is
