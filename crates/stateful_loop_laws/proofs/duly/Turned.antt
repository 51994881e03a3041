-- Marks of jobs and of answers to builds keep their rules after a turn of a job.
use Rattle.std.proofs.Common.{◌≡◌, ◌≢◌, ◌++◌, ℕ, List, [], ◌∷◌, All, Option, None, Some, Result, Ok, Err, refl, sym, ap, ◌∙◌, subst, append_assoc}
use Rattle.std.proofs.lemmas.List.Elements.{All-cons}
use Rattle.stateful_base.specs.Names.{Named}
use Rattle.stateful_base.specs.declared.outcome.Handoff.{Handoff}
use Rattle.stateful_base.specs.declared.outcome.Handoff.TheVariants as handed
use Rattle.stateful_base.specs.declared.outcome.Moved.{Moved}
use Rattle.stateful_base.specs.declared.outcome.Moved.TheVariants.{Pending, Done}
use Rattle.stateful_db.specs.declared.application.AppFault.{AppFault}
use Rattle.stateful_db.specs.declared.application.ProposedBlock.{ProposedBlock}
use Rattle.stateful_history.specs.Past.{Past, Came, Made, EachMark}
use Rattle.stateful_history.specs.Requests.{Proposal}
use Rattle.stateful_history.specs.Runs.{EndsAsItsKind, CancelledHasCause, BuildIsAnswered}
use Rattle.stateful_history.specs.declared.event.Event.TheVariants.{Turn}
use Rattle.stateful_history.specs.declared.mark.Decision.{Decision}
use Rattle.stateful_history.specs.declared.mark.Decision.TheVariants as decision
use Rattle.stateful_history.specs.declared.mark.How.{How}
use Rattle.stateful_history.specs.declared.mark.How.TheVariants as how
use Rattle.stateful_history.specs.declared.mark.Mark.{Mark}
use Rattle.stateful_history.specs.declared.mark.Mark.TheVariants.{Ended, Built, Answered, Declined}
use Rattle.stateful_exec_cache.specs.declared.cache.Cached.{Cached}
use Rattle.stateful_table.specs.Table.{put}
use Rattle.stateful_exec_model.specs.Built.{decided, Gives, HasTurn, EndsBuild, TurnsBuild, other, goes_on, ends}
use Rattle.stateful_exec_tables.specs.Tables.{released}
use Rattle.stateful_exec_tables.specs.Keeping.{Takes}
use Rattle.stateful_exec_model.specs.Ending.{IsTold, rejected, mismatched, agreed, EndsRun, TurnsRun, Settles, SettlesBy}
use Rattle.stateful_exec_tables.specs.Keeping.{there, added, missed}
use Rattle.stateful_exec_model.specs.Finalizing.{front_at, TurnsHook, hook_turned, unhooked, StepsFinal, turned, not_live, candidate, finalized}
use Rattle.stateful_exec_model.specs.Finalizing.{Completes}
use Rattle.stateful_exec_model.specs.Moments as exec
use Rattle.stateful_exec_tables.specs.Phase.{released_on}
use Rattle.stateful_exec_model.specs.Workings.{Workings}
use Rattle.stateful_exec_model.specs.declared.building.Building.{Building}
use Rattle.stateful_exec_model.specs.declared.front.Front.{Front}
use Rattle.stateful_exec_model.specs.declared.front.Stage.TheVariants.{Running, Hooking}
use Rattle.stateful_exec_tables.specs.declared.state.Tables.{Tables}
use Rattle.stateful_exec_laws.specs.Building.{IsBuilding, BuildStands}
use Rattle.stateful_exec_laws.specs.Fronting.{FrontStands}
use Rattle.stateful_exec_laws.specs.Setting.{setting}
use Rattle.stateful_exec_laws.proofs.builds.AnswerBuilt.{IsAnswer, voted-answer, staged-answer}
use Rattle.stateful_exec_laws.proofs.builds.Marks.{nothing-EndsAsItsKind, nothing-BuildIsAnswered}
use Rattle.stateful_exec_laws.proofs.front.Marks.{ran-EndsAsItsKind, hooked-EndsAsItsKind}
use Rattle.stateful_exec_laws.proofs.requests.KeptMarks.{KeepsBehind, EachMark-behind}
use Rattle.stateful_exec_laws.proofs.places.Cancelled.{ended-in_turn}
use Rattle.stateful_loop_model.specs.Intake.{Counts, TurnsJob, build, hook, run}
use Rattle.stateful_loop_model.specs.Moments.{Moment, inner, with_inner}
use Rattle.stateful_loop_laws.specs.Duly.{DulyBehind}
use Rattle.stateful_loop_laws.specs.Execution.{IsFree, IsPlaced, Executes}
use Rattle.stateful_loop_laws.proofs.places.Scheduled.{ground-free}
use Rattle.stateful_loop_laws.proofs.duly.Unruled.{IsUnruled, IsUnbuilt, UnruledBehind, unruled-unbuilt, unbuilt-answered, unruled-follow, unruled-said, duly-none}

-- how a candidate run may end in its turn
abbrev IsOfRun : How → Type 0
IsOfRun how.Kept = Unit {0}
IsOfRun how.Rejected = Unit {0}
IsOfRun how.Mismatched = Unit {0}
IsOfRun how.Missed = Unit {0}
IsOfRun x = ⊥

ended_unbuilt : (B : Type 0) (j : ℕ) (x : How) → IsOfRun x → IsUnbuilt {B = B} (Ended j x)
ended_unbuilt B j how.Nothing h = absurd h
ended_unbuilt B j x h = tt

module _ {B C I P R D H G U : Type 0} (w : Workings B C I P R D H G U) (stored : ℕ → Option (Named B)) where
  taken_so : (b : Named B) (anchor : _) (batch : U) (before after : List (Cached U)) (x : How) → Takes w.header anchor b batch before after x → IsOfRun x
  taken_so b anchor batch before after x (there any is) = tt
  taken_so b anchor batch before after x (added out later here is) = tt
  taken_so b anchor batch before after x (missed out why is) = tt

  told_so : (anchor : _) (b : Named B) (before after : List (Cached U)) (o : Option U) (x : How) → IsTold w anchor b before after o x → IsOfRun x
  told_so anchor b before after o x (rejected is) = tt
  told_so anchor b before after o x (mismatched differs is) = tt
  told_so anchor b before after o x (agreed {batch = batch} agrees takes) = taken_so b anchor batch before after x takes

module _ {B C I P R D H G U : Type 0} (w : Workings B C I P R D H G U) (stored : ℕ → Option (Named B)) (base : w.States) (p : Past B C I) (j : ℕ)
    (m : Moment w) (h : Executes w stored base p m) where
  abbrev given : Past B C I
  given = Came (Turn j) ∷ p

  abbrev Duly : Moment w → Type 0
  Duly = DulyBehind w stored base (Turn j) given m

  abbrev v : Tables B C I R U
  v = m.execution.state

  none_said : (now : Moment w) → now.marks ≡ m.marks → Duly now
  none_said now is = duly-none w stored base (Turn j) given m now is

  -- where a job ends by one mark
  one_ended : (now : Moment w) (x : How) → now.marks ≡ m.marks ++ Ended j x ∷ [] → EndsAsItsKind (Turn j) given (Ended j x)
      → ((all : List (Mark B)) → CancelledHasCause (setting w stored) (Turn j) all given (Ended j x))
      → BuildIsAnswered given (Ended j x) None → Duly now
  one_ended now x is own_end cause answered = record {
    more = Ended j x ∷ [];
    marks_are = is;
    each = λ all among. ((tt, tt, own_end, cause all, λ rule. tt, tt), tt);
    answered = answered;
  }

  module _ (b : Building B C D) (is : m.execution.build ≡ Some b) (own : b.job ≡ j) where
    stands : BuildStands w stored p h.points m.next v (Some b)
    stands = subst (λ (o : Option (Building B C D)). BuildStands w stored p h.points m.next v o) is h.builds

    abbrev building : IsBuilding w stored p h.points m.next v.anchor v.cache b
    building = stands.each

    free : IsFree w stored base p h.points h.point m.next v
    free = subst (λ (f : Option (Front B R U H)). IsPlaced w stored base p h.points h.point m.next v f) (h.alone (rw is refl)) h.placed

    abbrev asks : Proposal B C I
    asks = record { kind = b.kind; context = b.context; parent = b.parent; input = building.input }

    -- what is said duly in the turn of the build's own job
    own_turn : (now : Moment w) → DulyBehind w stored base (Turn b.job) (Came (Turn b.job) ∷ p) m now → Duly now
    own_turn now d = subst (λ (i : ℕ). DulyBehind w stored base (Turn i) (Came (Turn i) ∷ p) m now) own d

    -- the build gave a block
    gave : (turned_to : D) (d : Decision) (x : ProposedBlock B U) (then : exec.Moment w) (now : Moment w) → now.marks ≡ then.marks
        → (g : Gives w (record b { build = turned_to }) (inner w m) x d then)
        → KeepsBehind w (IsAnswer w stored base p h.points h.point v.anchor (inner w m) (ground-free w stored base p h.points h.point (inner w m) free)
        h.located b asks refl building.proposal building.job building.below building.chain building.own building.provider _ building.builds)
        (Came (Turn b.job) ∷ p) (inner w m) then → Duly now
    gave turned_to d x then now marks g k =
        let each = EachMark-behind w (IsAnswer w stored base p h.points h.point v.anchor (inner w m)
        (ground-free w stored base p h.points h.point (inner w m) free)
        h.located b asks refl building.proposal building.job building.below building.chain building.own building.provider _ building.builds)
        (Came (Turn b.job) ∷ p) (inner w m) then (Built b.job b.ticket g.block ∷ Answered b.ticket (decided b.kind d) g.block ∷ [])
        (ap (λ (n : exec.Moment w). n.marks) g.becomes) k in
        own_turn now (record {
          more = Built b.job b.ticket g.block ∷ Answered b.ticket (decided b.kind d) g.block ∷ [];
          marks_are = marks ∙ ap (λ (n : exec.Moment w). n.marks) g.becomes;
          each = λ all among. ((tt, each.0.1, each.0.2, tt, λ rule. tt, tt), ((tt, each.1.0.1, each.1.0.2, tt, λ rule. tt, tt), tt));
          answered = ((asks, record { live = building.proposal.live; proposes = building.proposal.proposes }, building.job.is, (refl, refl)), tt);
        })

    -- the build has ended
    ended : (count : D → ℕ) (turned_to : D) (given_to : Handoff (ProposedBlock B U)) (then : exec.Moment w) (now : Moment w) → now.marks ≡ then.marks
        → HasTurn w count m.members b.build turned_to (Ok (Done given_to)) → EndsBuild w (record b { build = turned_to }) (inner w m) given_to then
        → Duly now
    ended count turned_to handed.Wait then now marks had becomes = own_turn now (record {
      more = Ended b.job how.Nothing ∷ Declined b.ticket ∷ [];
      marks_are = marks ∙ ap (λ (n : exec.Moment w). n.marks) becomes;
      each = λ all among. (
        (tt, tt, (nothing-EndsAsItsKind w stored base p h.points h.point m.next v h.tables b stands).0, tt, λ rule. tt, tt),
        ((tt, tt, tt, tt, λ rule. tt, tt), tt),
      );
      answered = nothing-BuildIsAnswered w stored base p h.points h.point m.next v h.tables b stands;
    })
    ended count turned_to (handed.Vote x) then now marks had g = gave turned_to decision.Vote x then now marks g
        (voted-answer w stored base p h.points h.point v.anchor (inner w m) (ground-free w stored base p h.points h.point (inner w m) free)
        h.located b asks refl building.proposal building.job building.below building.chain building.own building.provider _ building.builds
        count turned_to x then had g)
    ended count turned_to (handed.Stage x) then now marks had g = gave turned_to decision.Stage x then now marks g
        (staged-answer w stored base p h.points h.point v.anchor (inner w m) (ground-free w stored base p h.points h.point (inner w m) free)
        h.located b asks refl building.proposal building.job building.below building.chain building.own building.provider _ building.builds
        count turned_to x then had g)

  build_said : (count : D → ℕ) (then : exec.Moment w) (after : Option (Building B C D)) (now : Moment w) → now.marks ≡ then.marks
      → TurnsBuild w count (inner w m) m.execution.build j then after → Duly now
  build_said count then after now marks (other off same is) = none_said now (marks ∙ ap (λ (n : exec.Moment w). n.marks) same)
  build_said count then after now marks (goes_on at had same is) = none_said now (marks ∙ ap (λ (n : exec.Moment w). n.marks) same)
  build_said count then after now marks (ends {b = b} {turned = turned_to} {given = given_to} at had settles is) =
      ended b at.live at.job count turned_to given_to then now marks had settles

  fronts_at : (front : Option (Front B R U H)) → m.execution.front ≡ front → FrontStands w stored p h.point m.next v.anchor front
  fronts_at front is = subst (λ (o : Option (Front B R U H)). FrontStands w stored p h.point m.next v.anchor o) is h.fronts

  hook_said : (count : H → ℕ) (marks : List (Mark B)) (after : Option (Front B R U H)) (now : Moment w) → now.marks ≡ marks
      → TurnsHook w count m.members m.execution.front j m.marks marks after → Duly now
  hook_said count marks after now is (unhooked off same is_front) = none_said now (is ∙ same)
  hook_said count marks after now is (hook_turned {b = b} {hook = old} {answer = Ok Pending} live had settles) = none_said now (is ∙ settles.0)
  hook_said count marks after now is (hook_turned {b = b} {hook = old} {answer = Ok (Done o)} live had settles) =
      one_ended now how.Hooked (is ∙ settles.0)
      (hooked-EndsAsItsKind w stored p h.point m.next v.anchor b j old (fronts_at (front_at b (Hooking j old)) live.is)).0 (λ all. tt) tt
  hook_said count marks after now is (hook_turned {answer = Err fault} live had settles) = absurd settles

  final_said : (count : R → ℕ) (marks : List (Mark B)) (after : Option (Front B R U H)) (now : Moment w) → now.marks ≡ marks
      → StepsFinal w count m.members m.execution.front j m.marks marks after → Duly now
  final_said count marks after now is (not_live off same is_front) = none_said now (is ∙ same)
  final_said count marks after now is (turned {b = b} {run = old} {answer = Ok Pending} live had settles) = none_said now (is ∙ settles.0)
  final_said count marks after now is (turned {b = b} {run = old} {answer = Ok (Done o)} live had settles) =
      one_ended now how.Kept (is ∙ settles.2)
      (ran-EndsAsItsKind w stored p h.point m.next v.anchor b j old (fronts_at (front_at b (Running j old)) live.is)).0 (λ all. tt) tt
  final_said count marks after now is (turned {answer = Err fault} live had settles) = absurd settles

  -- a candidate run has ended, and requests follow its end
  run_ended : (count : R → ℕ) (o : Option U) (had : Tables B C I R U) (then : exec.Moment w) (now : Moment w) → now.marks ≡ then.marks
      → (turns : TurnsRun w count m.members j v had (Ok (Done o))) → Settles w (record (inner w m) { state = had }) j o then → Duly now
  run_ended count o had then now marks turns settles =
      let e : EndsRun w (record (inner w m) { state = record v { runs = put v.runs j (record turns.live { run = turns.turned }) } }) j settles.block
      o settles.how settles.done =
      subst (λ (x : Tables B C I R U). EndsRun w (record (inner w m) { state = x }) j settles.block o settles.how settles.done) turns.state
      settles.ends in
      let kind : IsOfRun settles.how = told_so w stored v.anchor settles.block v.cache e.cache o settles.how e.told in
      let u : UnruledBehind w (record (settles.done) { state = released j settles.done.state }) then =
      unruled-follow w given settles.block settles.how (released_on j settles.done.state.requests)
      (record (settles.done) { state = released j settles.done.state }) then settles.follow in
      record {
        more = Ended j settles.how ∷ u.more;
        marks_are = marks ∙ u.marks_are ∙ ap (λ ms. ms ++ u.more) (ap (λ (n : exec.Moment w). n.marks) settles.ends.becomes)
            ∙ append_assoc m.marks (Ended j settles.how ∷ []) u.more;
        each = λ all among. (
          (
            tt,
            tt,
            ended-in_turn w stored p h.points h.point m.next v h.tables j turns.live turns.live_is settles.block v.cache e.cache o settles.how e.told,
            cause all settles.how kind,
            λ rule. tt,
            tt,
          ),
          unruled-said w stored base (Turn j) all (Made (Ended j settles.how) ∷ given) u.more u.each,
        );
        answered = unbuilt-answered given (Ended j settles.how ∷ u.more) (All-cons IsUnbuilt (Ended j settles.how) u.more
            (ended_unbuilt B j settles.how kind) (unruled-unbuilt u.more u.each));
      }
    where
      cause : (all : List (Mark B)) (x : How) → IsOfRun x → CancelledHasCause (setting w stored) (Turn j) all given (Ended j x)
      cause all how.Cancelled never = absurd never
      cause all x never = tt

  run_said : (count : R → ℕ) (then : exec.Moment w) (after : Option (Front B R U H)) (now : Moment w) → now.marks ≡ then.marks
      → Completes w count (inner w m) m.execution.front j then after → Duly now
  run_said count then after now marks (candidate steps same) = by steps.running steps.answer steps.turns steps.settles
    where
      by : (had : Tables B C I R U) (answer : Result (Moved (Option U)) AppFault) → TurnsRun w count m.members j v had answer
          → SettlesBy w (record (inner w m) { state = had }) j answer then → Duly now
      by had (Ok Pending) turns is = none_said now (marks ∙ ap (λ (n : exec.Moment w). n.marks) is)
      by had (Ok (Done o)) turns settles = run_ended count o had then now marks turns settles
      by had (Err fault) turns settles = absurd settles
  run_said count then after now marks (finalized none_runs steps same) = final_said count then.marks after now marks steps

  -- All is said duly.
  pub duly-turns : (counts : Counts R D H) (now : Moment w) → TurnsJob w counts j m now → Duly now
  duly-turns counts now (build {then = then} {after = after} builds turned_it is) =
      build_said counts.build then after now (ap (λ (n : Moment w). n.marks) is) turned_it
  duly-turns counts now (hook {marks = marks} {after = after} unbuilt hooks turned_it is) =
      hook_said counts.hook marks after now (ap (λ (n : Moment w). n.marks) is) turned_it
  duly-turns counts now (run {then = then} {after = after} unbuilt not_hooked completes is) =
      run_said counts.run then after now (ap (λ (n : Moment w). n.marks) is) completes
