-- What was gathered stays linked, and the parents of queued proposals known or lost, after an event that is taken in.
use Rattle.std.proofs.Common.{◌≡◌, ◌++◌, ◌∷◌, [], ℕ, true, List, Option, None, Result, Ok, Err, sym, ap, ◌∙◌, subst, append-nil}
use Rattle.std.proofs.lemmas.List.Elements.{All-cons}
use Rattle.stateful_base.specs.Names.{Named}
use Rattle.stateful_base.specs.declared.outcome.Handoff.{Handoff}
use Rattle.stateful_base.specs.declared.outcome.Handoff.TheVariants as handed
use Rattle.stateful_base.specs.declared.outcome.Moved.{Moved}
use Rattle.stateful_base.specs.declared.outcome.Moved.TheVariants.{Pending, Done}
use Rattle.stateful_db.specs.Laws.{Laws}
use Rattle.stateful_db.specs.declared.application.AppFault.{AppFault}
use Rattle.stateful_db.specs.declared.application.ProposedBlock.{ProposedBlock}
use Rattle.stateful_history.specs.Met.{TrueNames}
use Rattle.stateful_history.specs.Past.{Past, Came, Made, after}
use Rattle.stateful_history.specs.Stops.{IsRestart}
use Rattle.stateful_history.specs.declared.event.Event.{Event}
use Rattle.stateful_history.specs.declared.event.Event.TheVariants.{Fetched, Turn, Cancel, Restart}
use Rattle.stateful_history.specs.declared.mark.Mark.{Mark}
use Rattle.stateful_exec_model.specs.Built.{TurnsBuild, other, goes_on, ends, EndsBuild, GivesUp, building, asking}
use Rattle.stateful_exec_tables.specs.Fetching.{Fetches}
use Rattle.stateful_exec_model.specs.Fetching.{IsFetched, found, waits, declines, dead}
use Rattle.stateful_exec_model.specs.Finalizing.{TurnsHook, hook_turned, unhooked, SettlesHook, candidate, finalized, StepsFinal, turned, not_live, SettlesFinal}
use Rattle.stateful_exec_model.specs.Finalizing.{Completes}
use Rattle.stateful_exec_model.specs.Moments as exec
use Rattle.stateful_exec_model.specs.Workings.{Workings}
use Rattle.stateful_exec_model.specs.declared.building.Building.{Building}
use Rattle.stateful_exec_model.specs.declared.front.Front.{Front}
use Rattle.stateful_exec_pause.specs.declared.pause.Pause.{Pause}
use Rattle.stateful_exec_tables.specs.declared.state.Tables.{Tables}
use Rattle.stateful_exec_tables.specs.declared.tables.Requested.{Requested}
use Rattle.stateful_exec_laws.specs.Ground.{IsGround}
use Rattle.stateful_exec_laws.specs.Setting.{setting}
use Rattle.stateful_exec_laws.proofs.linked.Fetched.{StaysLinked-fetched, StaysLinked-cancelled}
use Rattle.stateful_exec_laws.proofs.linked.On.{IsStill, StaysLinked, met_on, StaysLinked-on, StaysLinked-marks}
use Rattle.stateful_exec_laws.proofs.linked.Turned.{LinkedBehind}
use Rattle.stateful_exec_laws.proofs.linked.QueueServed.{queue-met}
use Rattle.stateful_loop_model.specs.Intake.{Counts, Cancels, TakesIn, TurnsJob}
use Rattle.stateful_loop_model.specs.Intake as intake
use Rattle.stateful_loop_model.specs.Moments.{Moment, inner, with_inner}
use Rattle.stateful_loop_laws.specs.Execution.{Executes, IsPlaced, IsFree, NamesBehind}
use Rattle.stateful_loop_laws.specs.Reasons.{IsTrusted}
use Rattle.stateful_loop_laws.specs.Stands.{IsUpAt}
use Rattle.stateful_loop_laws.proofs.reasons.LinkedRules.{TablesLinkedBehind, AreStill, one_still, none_still}
use Rattle.stateful_loop_laws.proofs.reasons.LinkedRun.{StaysLinked-run}
use Rattle.stateful_loop_laws.proofs.places.Places.{fetches-free}
use Rattle.stateful_loop_laws.proofs.reasons.RoundsLater.{front-finalized}
use Rattle.stateful_loop_laws.proofs.events.Trusted.{IsTrusted-before}

module _ {B C I : Type 0} (p : Past B C I) where
  came_still : (e : Event B C I) → (IsRestart e → ⊥) → IsStill {B = B} (Came e)
  came_still (Restart floor keep) on = on tt
  came_still e on = tt

module _ {B C I P R D H G U : Type 0} (w : Workings B C I P R D H G U) (laws : Laws w.kind) (stored : ℕ → Option (Named B)) (base : w.States)
    (p : Past B C I) (m now : Moment w) (u : IsUpAt w stored base p m) (h : StaysLinked w stored base p m.execution.state) where
  abbrev v : Tables B C I R U
  v = m.execution.state

  module _ (e : Event B C I) (on : IsRestart e → ⊥) (names : TrueNames (setting w stored) (Came e ∷ p))
      (behind : NamesBehind w stored base (Came e ∷ p) m now) where
    abbrev q : Past B C I
    q = Came e ∷ p

    -- it is so after the event
    came : StaysLinked w stored base q v
    came = StaysLinked-on w stored base p (Came e) (came_still p e on) names v (queue-met w stored p v.queued v.recovered u.executes.tables.queue) h

    -- and after marks that open nothing, begin no finalization and ask for nothing, where requests and the queue are as they were
    marked : (marks : List (Mark B)) → AreStill w stored base q marks → now.marks ≡ m.marks ++ marks
        → now.execution.state.requests ≡ v.requests → now.execution.state.queued ≡ v.queued → TablesLinkedBehind w stored base q m now
    marked marks still is requests queued =
        let on_marks : StaysLinked w stored base (after q marks) v = StaysLinked-marks w stored base marks q still (behind marks is) v
        (met_on w stored base p (Came e) v.queued (queue-met w stored p v.queued v.recovered u.executes.tables.queue)) came in
        record {
          more = marks;
          marks_are = is;
          stays = record { gatherings = rw requests on_marks.gatherings; reaches = rw queued on_marks.reaches };
        }

    unmarked : now.marks ≡ m.marks → now.execution.state.requests ≡ v.requests → now.execution.state.queued ≡ v.queued
        → TablesLinkedBehind w stored base q m now
    unmarked is requests queued = marked [] (none_still w stored base q) (is ∙ sym (append-nil m.marks)) requests queued

    -- where only the loop changes, or the tables are the same
    looped : now.marks ≡ m.marks → now.execution.state ≡ v → TablesLinkedBehind w stored base q m now
    looped is same = unmarked is (ap (λ (t : Tables B C I R U). t.requests) same) (ap (λ (t : Tables B C I R U). t.queued) same)

    -- what execution has left
    by_execution : (then : exec.Moment w) → now.marks ≡ then.marks → now.execution.state ≡ then.state → LinkedBehind w stored base q (inner w m) then
        → TablesLinkedBehind w stored base q m now
    by_execution then marks state b = record {
      more = b.more;
      marks_are = marks ∙ b.marks_are;
      stays = subst (λ (t : Tables B C I R U). StaysLinked w stored base (after q b.more) t) (sym state) b.stays;
    }

  module _ (t : ℕ) (names : TrueNames (setting w stored) (Came (Cancel t) ∷ p)) (behind : NamesBehind w stored base (Came (Cancel t) ∷ p) m now) where
    -- a request is given up
    tables-cancels : Cancels w t m now → TablesLinkedBehind w stored base (Came (Cancel t) ∷ p) m now
    tables-cancels c = by c.gives_up
      where
        by : GivesUp v c.state m.execution.build c.build t c.marks → TablesLinkedBehind w stored base (Came (Cancel t) ∷ p) m now
        by (building for_it same none one) =
            marked (Cancel t) (λ r. r) names behind c.marks (rw one (one_still w stored base (Came (Cancel t) ∷ p) _ tt))
            (ap (λ (n : Moment w). n.marks) c.becomes)
            (ap (λ (n : Moment w). n.execution.state.requests) c.becomes ∙ ap (λ (x : Tables B C I R U). x.requests) same)
            (ap (λ (n : Moment w). n.execution.state.queued) c.becomes ∙ ap (λ (x : Tables B C I R U). x.queued) same)
        by (asking not_built cancels same) = record {
          more = c.marks;
          marks_are = ap (λ (n : Moment w). n.marks) c.becomes;
          stays = subst (λ (n : Moment w). StaysLinked w stored base (after (Came (Cancel t) ∷ p) c.marks) n.execution.state) (sym c.becomes)
              (StaysLinked-cancelled w stored base p u.executes.points u.executes.point m.next v c.state u.executes.tables t names h c.marks cancels);
        }

  module _ (f : ℕ) (answer : Option (Named B)) (trust : IsTrusted w stored (Came (Fetched f answer) ∷ p))
      (names : TrueNames (setting w stored) (Came (Fetched f answer) ∷ p))
      (behind : NamesBehind w stored base (Came (Fetched f answer) ∷ p) m now) (stored_now : ℕ → Option (Named B)) (then : exec.Moment w)
      (is : now ≡ with_inner w m then) where
    abbrev given : Past B C I
    given = Came (Fetched f answer) ∷ p

    -- the request that fetched is served, where nothing pauses
    answered : (t : ℕ) (r : Requested B C I) → Fetches v f t r → IsFetched w stored_now (inner w m) f answer then
        → TablesLinkedBehind w stored base given m now
    answered t r fetches rule =
        let e : Executes w stored base p m = u.executes in
        let front : m.execution.front ≡ None = fetches-free w stored base p e.points e.point m.next v m.execution.front e.placed f t r fetches in
        let free : IsFree w stored base p e.points e.point m.next v =
        subst (λ (o : Option (Front B R U H)). IsPlaced w stored base p e.points e.point m.next v o) front e.placed in
        by_execution (Fetched f answer) (λ r. r) names behind then (ap (λ (n : Moment w). n.marks) is) (ap (λ (n : Moment w). n.execution.state) is)
        (StaysLinked-fetched w stored base p e.points e.point v.anchor (inner w m) e.tables
        (subst (λ (x : Pause). IsGround w stored base p e.points e.point m.next v.anchor x v.anchor v.cache) (sym free.pause_is) free.ground)
        free.pause_is f answer names trust.honest trust.answered h stored_now then rule)

    -- a fetch is answered
    tables-fetched : IsFetched w stored_now (inner w m) f answer then → TablesLinkedBehind w stored base given m now
    tables-fetched (found t r b fetches own acquires) = answered t r fetches (found t r b fetches own acquires)
    tables-fetched (waits t r fetches own verification becomes) = answered t r fetches (waits t r fetches own verification becomes)
    tables-fetched (declines t r fetches own proposal concludes) = answered t r fetches (declines t r fetches own proposal concludes)
    tables-fetched (dead none_live same) =
        looped (Fetched f answer) (λ r. r) names behind (ap (λ (n : Moment w). n.marks) is ∙ ap (λ (n : exec.Moment w). n.marks) same)
        (ap (λ (n : Moment w). n.execution.state) is ∙ ap (λ (n : exec.Moment w). n.state) same)

  module _ (j : ℕ) (trust : IsTrusted w stored (Came (Turn j) ∷ p)) (up : m.loop.up ≡ true) (names : TrueNames (setting w stored) (Came (Turn j) ∷ p))
      (behind : NamesBehind w stored base (Came (Turn j) ∷ p) m now) (counts : Counts R D H) where
    abbrev gone : Past B C I
    gone = Came (Turn j) ∷ p

    abbrev Behind : Type 0
    Behind = TablesLinkedBehind w stored base gone m now

    with_marks : (marks : List (Mark B)) → AreStill w stored base gone marks → now.marks ≡ m.marks ++ marks
        → now.execution.state.requests ≡ v.requests → now.execution.state.queued ≡ v.queued → Behind
    with_marks = marked (Turn j) (λ r. r) names behind

    as_was : now.marks ≡ m.marks → now.execution.state ≡ v → Behind
    as_was = looped (Turn j) (λ r. r) names behind

    one_mark : (mark : Mark B) → IsStill {C = C} {I = I} (Made mark) → AreStill w stored base gone (mark ∷ [])
    one_mark mark still = one_still w stored base gone mark still

    two_marks : (first second : Mark B) → IsStill {C = C} {I = I} (Made first) → IsStill {C = C} {I = I} (Made second)
        → AreStill w stored base gone (first ∷ second ∷ [])
    two_marks first second a b = All-cons (λ x. IsStill {C = C} {I = I} (Made x)) first (second ∷ []) a (one_mark second b)

    -- the live build has a turn
    build_ended : (b : Building B C D) (given : Handoff (ProposedBlock B U)) (then : exec.Moment w) → EndsBuild w b (inner w m) given then
        → now.marks ≡ then.marks → now.execution.state ≡ then.state → Behind
    build_ended b handed.Wait then rule is state =
        with_marks _ (two_marks _ _ tt tt) (is ∙ ap (λ (n : exec.Moment w). n.marks) rule)
        (ap (λ (t : Tables B C I R U). t.requests) state ∙ ap (λ (n : exec.Moment w). n.state.requests) rule)
        (ap (λ (t : Tables B C I R U). t.queued) state ∙ ap (λ (n : exec.Moment w). n.state.queued) rule)
    build_ended b (handed.Vote x) then rule is state =
        with_marks _ (two_marks _ _ tt tt) (is ∙ ap (λ (n : exec.Moment w). n.marks) rule.becomes)
        (ap (λ (t : Tables B C I R U). t.requests) state ∙ ap (λ (n : exec.Moment w). n.state.requests) rule.becomes)
        (ap (λ (t : Tables B C I R U). t.queued) state ∙ ap (λ (n : exec.Moment w). n.state.queued) rule.becomes)
    build_ended b (handed.Stage x) then rule is state =
        with_marks _ (two_marks _ _ tt tt) (is ∙ ap (λ (n : exec.Moment w). n.marks) rule.becomes)
        (ap (λ (t : Tables B C I R U). t.requests) state ∙ ap (λ (n : exec.Moment w). n.state.requests) rule.becomes)
        (ap (λ (t : Tables B C I R U). t.queued) state ∙ ap (λ (n : exec.Moment w). n.state.queued) rule.becomes)

    build_turned : (count : D → ℕ) (then : exec.Moment w) (last : Option (Building B C D)) → TurnsBuild w count (inner w m) m.execution.build j then last
        → now.marks ≡ then.marks → now.execution.state ≡ then.state → Behind
    build_turned count then last (other none_live same after_is) is state =
        as_was (is ∙ ap (λ (n : exec.Moment w). n.marks) same) (state ∙ ap (λ (n : exec.Moment w). n.state) same)
    build_turned count then last (goes_on live had same after_is) is state =
        as_was (is ∙ ap (λ (n : exec.Moment w). n.marks) same) (state ∙ ap (λ (n : exec.Moment w). n.state) same)
    build_turned count then last (ends {b = b} {turned = moved} {given = given} live had rule after_is) is state =
        build_ended (record b { build = moved }) given then rule is state

    -- the hook has a turn
    hook_settled : (b : Named B) (moved : H) (answer : Result (Moved Unit) AppFault) (marks : List (Mark B)) (last : Option (Front B R U H))
        → SettlesHook w j b moved answer m.marks marks last → now.marks ≡ marks → now.execution.state ≡ v → Behind
    hook_settled b moved (Ok Pending) marks last rule is state = as_was (is ∙ rule.0) state
    hook_settled b moved (Ok (Done x)) marks last rule is state =
        with_marks _ (one_mark _ tt) (is ∙ rule.0) (ap (λ (t : Tables B C I R U). t.requests) state) (ap (λ (t : Tables B C I R U). t.queued) state)
    hook_settled b moved (Err fault) marks last rule is state = absurd rule

    hook_turn : (count : H → ℕ) (marks : List (Mark B)) (last : Option (Front B R U H)) → TurnsHook w count m.members m.execution.front j m.marks marks last
        → now.marks ≡ marks → now.execution.state ≡ v → Behind
    hook_turn count marks last (hook_turned {b = b} {now = moved} {answer = answer} live had rule) is state =
        hook_settled b moved answer marks last rule is state
    hook_turn count marks last (unhooked none_live same after_is) is state = as_was (is ∙ same) state

    -- the run of the finalized block has a turn
    final_settled : (b : Named B) (moved : R) (answer : Result (Moved (Option U)) AppFault) (marks : List (Mark B)) (last : Option (Front B R U H))
        → SettlesFinal w j b moved answer m.marks marks last → now.marks ≡ marks → now.execution.state ≡ v → Behind
    final_settled b moved (Ok Pending) marks last rule is state = as_was (is ∙ rule.0) state
    final_settled b moved (Ok (Done o)) marks last rule is state =
        with_marks _ (one_mark _ tt) (is ∙ rule.2) (ap (λ (t : Tables B C I R U). t.requests) state) (ap (λ (t : Tables B C I R U). t.queued) state)
    final_settled b moved (Err fault) marks last rule is state = absurd rule

    final_turn : (count : R → ℕ) (marks : List (Mark B)) (last : Option (Front B R U H)) → StepsFinal w count m.members m.execution.front j m.marks marks last
        → now.marks ≡ marks → now.execution.state ≡ v → Behind
    final_turn count marks last (turned {b = b} {turned = moved} {answer = answer} live had rule) is state =
        final_settled b moved answer marks last rule is state
    final_turn count marks last (not_live none_live same after_is) is state = as_was (is ∙ same) state

    before : IsTrusted w stored p
    before = IsTrusted-before w stored (Came (Turn j)) p trust

    run_turn : (then : exec.Moment w) (last : Option (Front B R U H)) → Completes w counts.run (inner w m) m.execution.front j then last
        → now.marks ≡ then.marks → now.execution.state ≡ then.state → Behind
    run_turn then last (candidate steps after_is) is state =
        by_execution (Turn j) (λ r. r) names behind then is state
        (StaysLinked-run w laws stored base p m u.executes u.ways before.rise before.honest before.answered h j counts.run then steps
        (front-finalized w stored base p m u up))
    run_turn then last (finalized off steps same) is state =
        final_turn counts.run then.marks last steps is (state ∙ ap (λ (n : exec.Moment w). n.state) same)

    -- a job has a turn
    tables-turns : TurnsJob w counts j m now → Behind
    tables-turns (intake.build {then = then} {after = last} builds rule is) =
        build_turned counts.build then last rule (ap (λ (n : Moment w). n.marks) is) (ap (λ (n : Moment w). n.execution.state) is)
    tables-turns (intake.hook {marks = marks} {after = last} not_built hooks rule is) =
        hook_turn counts.hook marks last rule (ap (λ (n : Moment w). n.marks) is) (ap (λ (n : Moment w). n.execution.state) is)
    tables-turns (intake.run {then = then} {after = last} not_built not_hooked rule is) =
        run_turn then last rule (ap (λ (n : Moment w). n.marks) is) (ap (λ (n : Moment w). n.execution.state) is)

  -- It stays so after an event that is taken in, and is no restart.
  pub tables-takes_in : (stored_now : ℕ → Option (Named B)) (counts : Counts R D H) → m.loop.up ≡ true → (e : Event B C I) → (IsRestart e → ⊥)
      → IsTrusted w stored (Came e ∷ p) → TrueNames (setting w stored) (Came e ∷ p) → NamesBehind w stored base (Came e ∷ p) m now
      → TakesIn w stored_now counts m now e → TablesLinkedBehind w stored base (Came e ∷ p) m now
  tables-takes_in stored_now counts up e on trust names behind (intake.enters x is) =
      looped e on names behind (ap (λ (n : Moment w). n.marks) is) (ap (λ (n : Moment w). n.execution.state) is)
  tables-takes_in stored_now counts up _ on trust names behind (intake.cancels {t = t} c) = tables-cancels t names behind c
  tables-takes_in stored_now counts up _ on trust names behind (intake.fetched {f = f} {answer = answer} {then = then} rule is) =
      tables-fetched f answer trust names behind stored_now then is rule
  tables-takes_in stored_now counts up _ on trust names behind (intake.turns {j = j} rule) = tables-turns j trust up names behind counts rule
  tables-takes_in stored_now counts up e on trust names behind (intake.flushes rule) =
      looped e on names behind (ap (λ (n : Moment w). n.marks) rule.becomes) (ap (λ (n : Moment w). n.execution.state) rule.becomes)
  tables-takes_in stored_now counts up e on trust names behind (intake.stops is) =
      looped e on names behind (ap (λ (n : Moment w). n.marks) is) (ap (λ (n : Moment w). n.execution.state) is)
  tables-takes_in stored_now counts up e on trust names behind (intake.progresses is) =
      looped e on names behind (ap (λ (n : Moment w). n.marks) is) (ap (λ (n : Moment w). n.execution.state) is)
  tables-takes_in stored_now counts up e on trust names behind (intake.restarts is) = absurd (on tt)
