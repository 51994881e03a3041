-- The ways of requests are kept after a turn of a job, be it the live build, the hook or a run.
use Rattle.std.proofs.Common.{◌≡◌, ◌++◌, ℕ, List, [], ◌∷◌, All, Option, None, Some, Result, Ok, Err, refl, sym, ap, ◌∙◌, subst}
use Rattle.std.proofs.lemmas.List.Elements.{All-cons, All-nil}
use Rattle.stateful_base.specs.Names.{Named}
use Rattle.stateful_base.specs.declared.outcome.Handoff.{Handoff}
use Rattle.stateful_base.specs.declared.outcome.Handoff.TheVariants.{Wait, Vote, Stage}
use Rattle.stateful_base.specs.declared.outcome.Moved.{Moved}
use Rattle.stateful_base.specs.declared.outcome.Moved.TheVariants.{Pending, Done}
use Rattle.stateful_db.specs.declared.application.AppFault.{AppFault}
use Rattle.stateful_db.specs.declared.application.ProposedBlock.{ProposedBlock}
use Rattle.stateful_history.specs.Past.{Past, Came}
use Rattle.stateful_history.specs.declared.event.Event.TheVariants.{Turn}
use Rattle.stateful_history.specs.declared.mark.Decision.{Decision}
use Rattle.stateful_history.specs.declared.mark.Decision.TheVariants as decision
use Rattle.stateful_history.specs.declared.mark.How.{How}
use Rattle.stateful_history.specs.declared.mark.How.TheVariants as how
use Rattle.stateful_history.specs.declared.mark.Mark.{Mark}
use Rattle.stateful_history.specs.declared.mark.Mark.TheVariants.{Ended}
use Rattle.stateful_exec_model.specs.Built.{Gives, EndsBuild, TurnsBuild, other, goes_on, ends}
use Rattle.stateful_exec_model.specs.Finalizing.{SettlesFinal, StepsFinal, turned, not_live, SettlesHook, TurnsHook, hook_turned, unhooked, candidate, finalized}
use Rattle.stateful_exec_model.specs.Finalizing.{Completes}
use Rattle.stateful_exec_model.specs.Moments as exec
use Rattle.stateful_exec_model.specs.Workings.{Workings}
use Rattle.stateful_exec_model.specs.declared.building.Building.{Building}
use Rattle.stateful_exec_model.specs.declared.front.Front.{Front}
use Rattle.stateful_exec_pause.specs.declared.pause.Pause.TheVariants.{Free}
use Rattle.stateful_exec_laws.proofs.earned.Carried.{IsMild}
use Rattle.stateful_loop_model.specs.Intake.{Counts, Builds, TurnsJob}
use Rattle.stateful_loop_model.specs.Intake as intake
use Rattle.stateful_loop_model.specs.Moments.{Moment, inner, with_inner}
use Rattle.stateful_loop_laws.specs.Execution.{IsFree, IsPlaced, Executes}
use Rattle.stateful_loop_laws.specs.Ways.{WaysKept, WaysBehind}
use Rattle.stateful_loop_laws.proofs.execution.BuildMade.{MakesOfBuild, MakesOfBuild-turns}
use Rattle.stateful_loop_laws.proofs.ways.Beside.{WaysStand-cached, WaysKept-came, WaysBehind-mild, WaysBehind-still}
use Rattle.stateful_loop_laws.proofs.ways.Turned.{StaysOpen, StaysOpen-steps}

one_ended : {B : Type 0} (j : ℕ) (h : How) → All (λ (x : Mark B). IsMild x) (Ended j h ∷ [])
one_ended j h = All-cons (λ x. IsMild x) (Ended j h) [] tt (All-nil (λ x. IsMild x))

module _ {B C I P R D H G U : Type 0} (w : Workings B C I P R D H G U) (stored : ℕ → Option (Named B)) (base : w.States) (p : Past B C I)
    (m : Moment w) (e : Executes w stored base p m) (kept : WaysKept w stored p m.execution.state) where
  -- where a build is live nothing pauses
  free_building : (b : Building B C D) → m.execution.build ≡ Some b → m.execution.state.pause ≡ Free
  free_building b live =
      let none : m.execution.front ≡ None = e.alone (rw live refl) in
      let free : IsFree w stored base p e.points e.point m.next m.execution.state =
      subst (λ (o : Option (Front B R U H)). IsPlaced w stored base p e.points e.point m.next m.execution.state o) none e.placed in
      free.pause_is

  module _ (j : ℕ) where
    abbrev q : Past B C I
    q = Came (Turn j) ∷ p

    came : WaysKept w stored q m.execution.state
    came = WaysKept-came w stored p (Turn j) (λ is. is) m.execution.state kept

    given : (b : Building B C D) (block : ProposedBlock B U) (handed : Decision) (then : exec.Moment w) → m.execution.state.pause ≡ Free
        → Gives w b (inner w m) block handed then → WaysKept w stored q then.state
    given b block handed then free g = subst (λ (n : exec.Moment w). WaysKept w stored q n.state) (sym g.becomes) (record {
      tip = came.tip;
      tip_is = came.tip_is;
      ways = WaysStand-cached w stored q came.tip m.execution.state g.cache (came.unparked free) came.ways;
      unparked = came.unparked;
      stores = came.stores;
    })

    ended : (b : Building B C D) (handed : Handoff (ProposedBlock B U)) (then : exec.Moment w) → m.execution.state.pause ≡ Free
        → EndsBuild w b (inner w m) handed then → WaysKept w stored q then.state
    ended b Wait then free is = subst (λ (n : exec.Moment w). WaysKept w stored q n.state) (sym is) came
    ended b (Vote block) then free g = given b block decision.Vote then free g
    ended b (Stage block) then free g = given b block decision.Stage then free g

    built : (count : D → ℕ) (then : exec.Moment w) (last : Option (Building B C D)) → TurnsBuild w count (inner w m) m.execution.build j then last
        → WaysKept w stored q then.state
    built count then last (other none is same) = subst (λ (n : exec.Moment w). WaysKept w stored q n.state) (sym is) came
    built count then last (goes_on live had is last_is) = subst (λ (n : exec.Moment w). WaysKept w stored q n.state) (sym is) came
    built count then last (ends {b = b} {turned = moved} {given = handed} live had leads last_is) =
        ended (record b { build = moved }) handed then (free_building b live.live) leads

    -- the ways are kept after a turn of the live build
    turned_build : (count : D → ℕ) (now : Moment w) (then : exec.Moment w) (last : Option (Building B C D))
        → TurnsBuild w count (inner w m) m.execution.build j then last
        → now ≡ record (with_inner w m then) { execution = record m.execution { state = then.state; build = last } } → WaysBehind w stored q m now
    turned_build count now then last turns is =
        let made : MakesOfBuild w q (inner w m) then = MakesOfBuild-turns w q count (inner w m) m.execution.build j then last turns in
        subst (λ (n : Moment w). WaysBehind w stored q m n) (sym is)
        (WaysBehind-mild w stored q m _ made.more made.mild made.marks_are (built count then last turns))

    -- one mark at most is made, and the tables are the same
    by_mark : (now : Moment w) (marks : List (Mark B)) → All (λ x. IsMild x) marks → now.marks ≡ m.marks ++ marks
        → now.execution.state ≡ m.execution.state
        → WaysBehind w stored q m now
    by_mark now marks mild is same = WaysBehind-mild w stored q m now marks mild is (rw same came)

    hooked : (b : Named B) (hook : H) (answer : Result (Moved Unit) AppFault) (marks : List (Mark B)) (last : Option (Front B R U H)) (now : Moment w)
        → SettlesHook w j b hook answer m.marks marks last → now.marks ≡ marks → now.execution.state ≡ m.execution.state → WaysBehind w stored q m now
    hooked b hook (Ok Pending) marks last now settles is same = WaysBehind-still w stored q m now (is ∙ settles.0) same came
    hooked b hook (Ok (Done x)) marks last now settles is same = by_mark now (Ended j how.Hooked ∷ []) (one_ended j how.Hooked) (is ∙ settles.0) same
    hooked b hook (Err fault) marks last now settles is same = absurd settles

    -- behind one of the hook
    turned_hook : (count : H → ℕ) (now : Moment w) (marks : List (Mark B)) (last : Option (Front B R U H))
        → TurnsHook w count m.members m.execution.front j m.marks marks last
        → now ≡ record m { execution = record m.execution { front = last }; marks = marks } → WaysBehind w stored q m now
    turned_hook count now marks last (hook_turned {b = b} {now = hook} {answer = answer} live had settles) is =
        hooked b hook answer marks last now settles (ap (λ (n : Moment w). n.marks) is) (ap (λ (n : Moment w). n.execution.state) is)
    turned_hook count now marks last (unhooked none same last_is) is =
        WaysBehind-still w stored q m now (ap (λ (n : Moment w). n.marks) is ∙ same) (ap (λ (n : Moment w). n.execution.state) is) came

    final : (b : Named B) (run : R) (answer : Result (Moved (Option U)) AppFault) (marks : List (Mark B)) (last : Option (Front B R U H))
        (now : Moment w)
        → SettlesFinal w j b run answer m.marks marks last → now.marks ≡ marks → now.execution.state ≡ m.execution.state → WaysBehind w stored q m now
    final b run (Ok Pending) marks last now settles is same = WaysBehind-still w stored q m now (is ∙ settles.0) same came
    final b run (Ok (Done o)) marks last now settles is same = by_mark now (Ended j how.Kept ∷ []) (one_ended j how.Kept) (is ∙ settles.2) same
    final b run (Err fault) marks last now settles is same = absurd settles

    final_by : (count : R → ℕ) (now : Moment w) (marks : List (Mark B)) (last : Option (Front B R U H))
        → StepsFinal w count m.members m.execution.front j m.marks marks last → now.marks ≡ marks → now.execution.state ≡ m.execution.state
        → WaysBehind w stored q m now
    final_by count now marks last (turned {b =
        b} {turned = run} {answer = answer} live had settles) is same = final b run answer marks last now settles is same
    final_by count now marks last (not_live none as_before last_is) is same = WaysBehind-still w stored q m now (is ∙ as_before) same came

    -- and behind one of a run
    turned_run : (count : R → ℕ) (now : Moment w) (then : exec.Moment w) (last : Option (Front B R U H))
        → Completes w count (inner w m) m.execution.front j then last
        → now ≡ record (with_inner w m then) { execution = record m.execution { state = then.state; front = last } } → WaysBehind w stored q m now
    turned_run count now then last (candidate steps last_is) is =
        let o : StaysOpen w stored p kept.tip (inner w m) then =
        StaysOpen-steps w stored p kept.tip e.points e.point (inner w m) e.tables kept.ways kept.unparked j count then steps in
        subst (λ (n : Moment w). WaysBehind w stored q m n) (sym is)
        (WaysBehind-mild w stored q m _ o.more o.mild o.marks_are
        (WaysKept-came w stored p (Turn j) (λ is. is) then.state
        (record { tip = kept.tip; tip_is = kept.tip_is; ways = o.ways; unparked = o.unparked; stores = kept.stores })))
    turned_run count now then last (finalized no_run steps then_is) is =
        final_by count now then.marks last steps (ap (λ (n : Moment w). n.marks) is)
        (ap (λ (n : Moment w). n.execution.state) is ∙ ap (λ (n : exec.Moment w). n.state) then_is)

    -- The ways are kept after a turn of a job.
    pub WaysBehind-turns : (counts : Counts R D H) (now : Moment w) → TurnsJob w counts j m now → WaysBehind w stored (Came (Turn j) ∷ p) m now
    WaysBehind-turns counts now (intake.build {then = then} {after = last} builds turns is) = turned_build counts.build now then last turns is
    WaysBehind-turns counts now (intake.hook {marks = marks} {after = last} unbuilt hooks turns is) = turned_hook counts.hook now marks last turns is
    WaysBehind-turns counts now (intake.run {then =
        then} {after = last} unbuilt no_hook completes is) = turned_run counts.run now then last completes is
