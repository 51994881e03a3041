-- False verdicts and declines have their reasons: those after an event that is taken in.
use Rattle.std.proofs.Common.{◌≡◌, ◌++◌, ◌∷◌, [], ℕ, true, List, Option, Some, None, IfSome, IsSome, Result, Ok, Err, All, refl, sym, ap, ◌∙◌, subst}
use Rattle.std.proofs.lemmas.List.Elements.{All-nil}
use Rattle.stateful_base.specs.Names.{Named}
use Rattle.stateful_base.specs.declared.outcome.Handoff.{Handoff}
use Rattle.stateful_base.specs.declared.outcome.Handoff.TheVariants as handed
use Rattle.stateful_base.specs.declared.outcome.Moved.{Moved}
use Rattle.stateful_base.specs.declared.outcome.Moved.TheVariants.{Pending, Done}
use Rattle.stateful_db.specs.Laws.{Laws}
use Rattle.stateful_db.specs.declared.application.AppFault.{AppFault}
use Rattle.stateful_db.specs.declared.application.ProposedBlock.{ProposedBlock}
use Rattle.stateful_history.specs.Honest.{IsAnswered}
use Rattle.stateful_history.specs.Met.{TrueNames}
use Rattle.stateful_history.specs.Past.{Past, Came}
use Rattle.stateful_history.specs.declared.event.Event.{Event}
use Rattle.stateful_history.specs.declared.event.Event.TheVariants.{Fetched, Turn}
use Rattle.stateful_history.specs.declared.mark.Mark.{Mark}
use Rattle.stateful_exec_model.specs.Built.{TurnsBuild, HasTurn, other, goes_on, ends, EndsBuild, GivesUp, building, asking}
use Rattle.stateful_exec_tables.specs.Cancelling.{Cancels}
use Rattle.stateful_exec_model.specs.Fetching.{IsFetched, found, waits, declines, dead}
use Rattle.stateful_exec_tables.specs.Cancelling.{idle, withdraws, leaves, unqueued}
use Rattle.stateful_exec_tables.specs.Fetching.{Fetches}
use Rattle.stateful_exec_tables.specs.Cancelling as cancel
use Rattle.stateful_exec_model.specs.Finalizing.{TurnsHook, hook_turned, unhooked, SettlesHook, candidate, finalized, StepsFinal, turned, not_live, SettlesFinal}
use Rattle.stateful_exec_model.specs.Finalizing.{Completes}
use Rattle.stateful_exec_model.specs.Moments as exec
use Rattle.stateful_exec_model.specs.Workings.{Workings}
use Rattle.stateful_exec_model.specs.declared.building.Building.{Building}
use Rattle.stateful_exec_model.specs.declared.front.Front.{Front}
use Rattle.stateful_exec_model.specs.declared.front.Stage.{Stage}
use Rattle.stateful_exec_pause.specs.declared.pause.Pause.{Pause}
use Rattle.stateful_exec_tables.specs.declared.state.Tables.{Tables}
use Rattle.stateful_exec_tables.specs.declared.tables.Requested.{Requested}
use Rattle.stateful_exec_laws.specs.Building.{IsBuilding}
use Rattle.stateful_exec_laws.specs.Gathering.{gathered, AreLinked, IsGathered}
use Rattle.stateful_exec_laws.specs.Setting.{setting}
use Rattle.stateful_exec_laws.specs.Storing.{IsStoredNow}
use Rattle.stateful_exec_laws.proofs.linked.Gathered.{AreLinked-fetched}
use Rattle.stateful_exec_laws.proofs.reasons.Built.{built-reason}
use Rattle.stateful_exec_laws.proofs.reasons.Fetched.{fetched-reason}
use Rattle.stateful_exec_laws.proofs.reasons.Ground.{IsGround}
use Rattle.stateful_exec_laws.proofs.runs.Removing.{All-at}
use Rattle.stateful_loop_model.specs.Intake.{Counts, TakesIn, enters, cancels, fetched, turns, flushes, stops, progresses, restarts, TurnsJob, build, hook, run}
use Rattle.stateful_loop_model.specs.Moments.{Moment, inner}
use Rattle.stateful_loop_laws.specs.Execution.{Executes, IsPlaced, IsFree}
use Rattle.stateful_loop_laws.specs.Reasons.{RefusesNone, IsTrusted, ReasonsStand, ReasonsBehind}
use Rattle.stateful_loop_laws.specs.Stands.{IsUpAt}
use Rattle.stateful_loop_laws.proofs.places.Places.{fetches-free}
use Rattle.stateful_loop_laws.proofs.reasons.Plain.{one_plain, two_plain, reasons_plain, reasons_none, reasons_by}
use Rattle.stateful_loop_laws.proofs.reasons.Turned.{turned-reasons}
use Rattle.stateful_loop_laws.proofs.reasons.RoundsLater.{front-finalized}
use Rattle.stateful_loop_laws.proofs.events.Trusted.{IsTrusted-before}

cancel_plain : {B C I R U : Type 0} (old new : Tables B C I R U) (t : ℕ) (ms : List (Mark B)) → Cancels old new t ms → All (λ x. RefusesNone x) ms
cancel_plain old new t ms (idle r there rest is none) = subst (λ l. All (λ x. RefusesNone x) l) (sym none) (All-nil (λ x. RefusesNone x))
cancel_plain old new t ms (withdraws r fetch there is one) = subst (λ l. All (λ x. RefusesNone x) l) (sym one) (one_plain _ tt)
cancel_plain old new t ms (leaves r j path there executing others is none) =
    subst (λ l. All (λ x. RefusesNone x) l) (sym none) (All-nil (λ x. RefusesNone x))
cancel_plain old new t ms (cancel.ends r j path there executing last is one) = subst (λ l. All (λ x. RefusesNone x) l) (sym one) (one_plain _ tt)
cancel_plain old new t ms (unqueued absent is none) = subst (λ l. All (λ x. RefusesNone x) l) (sym none) (All-nil (λ x. RefusesNone x))

gives_up_plain : {B C I R U D : Type 0} (old new : Tables B C I R U) (before after : Option (Building B C D)) (t : ℕ) (ms : List (Mark B))
    → GivesUp old new before after t ms → All (λ x. RefusesNone x) ms
gives_up_plain old new before after t ms (building for_it same none one) = subst (λ l. All (λ x. RefusesNone x) l) (sym one) (one_plain _ tt)
gives_up_plain old new before after t ms (asking not_built c same) = cancel_plain old new t ms c

module _ {B C I P R D H G U : Type 0} (w : Workings B C I P R D H G U) (laws : Laws w.kind) (stored : ℕ → Option (Named B)) (base : w.States)
    (event : Event B C I) (marks : List (Mark B)) where
  module _ (p : Past B C I) (m now : Moment w) where
    abbrev Behind : Type 0
    Behind = ReasonsBehind w stored base event marks p m now

    told : (more : List (Mark B)) → now.marks ≡ m.marks ++ more → All (λ x. RefusesNone x) more → Behind
    told = reasons_plain w stored base event marks p m now

    none : now.marks ≡ m.marks → Behind
    none = reasons_none w stored base event marks p m now

    hook_settled : (j : ℕ) (b : Named B) (turned_hook : H) (answer : Result (Moved Unit) AppFault)
        (ms : List (Mark B)) (after : Option (Front B R U H)) → SettlesHook w j b turned_hook answer m.marks ms after → now.marks ≡ ms → Behind
    hook_settled j b turned_hook (Ok Pending) ms after h is = none (is ∙ h.0)
    hook_settled j b turned_hook (Ok (Done over)) ms after h is = told _ (is ∙ h.0) (one_plain _ tt)
    hook_settled j b turned_hook (Err fault) ms after h is = absurd h

    hook_told : (count : H → ℕ) (j : ℕ) (ms : List (Mark B)) (after : Option (Front B R U H))
        → TurnsHook w count m.members m.execution.front j m.marks ms after → now.marks ≡ ms → Behind
    hook_told count j ms after (hook_turned {b = b} {now = turned_hook} {answer = answer} live had settles) is =
        hook_settled j b turned_hook answer ms after settles is
    hook_told count j ms after (unhooked none_live same still) is = none (is ∙ same)

    final_settled : (j : ℕ) (b : Named B) (turned_run : R) (answer : Result (Moved (Option U)) AppFault)
        (ms : List (Mark B)) (after : Option (Front B R U H)) → SettlesFinal w j b turned_run answer m.marks ms after → now.marks ≡ ms → Behind
    final_settled j b turned_run (Ok Pending) ms after h is = none (is ∙ h.0)
    final_settled j b turned_run (Ok (Done over)) ms after h is = told _ (is ∙ h.2) (one_plain _ tt)
    final_settled j b turned_run (Err fault) ms after h is = absurd h

    final_told : (count : R → ℕ) (j : ℕ) (ms : List (Mark B)) (after : Option (Front B R U H))
        → StepsFinal w count m.members m.execution.front j m.marks ms after → now.marks ≡ ms → Behind
    final_told count j ms after (turned {b = b} {turned = turned_run} {answer = answer} live had settles) is =
        final_settled j b turned_run answer ms after settles is
    final_told count j ms after (not_live none_live same still) is = none (is ∙ same)

  module _ (p : Past B C I) (m now : Moment w) (h : Executes w stored base p m) where
    abbrev v : Tables B C I R U
    v = m.execution.state

    module _ (front : m.execution.front ≡ None) where
      free : IsFree w stored base p h.points h.point m.next v
      free = subst (λ (f : Option (Front B R U H)). IsPlaced w stored base p h.points h.point m.next v f) front h.placed

      ground : IsGround w stored base p h.points h.point m.next v.anchor v.pause v.anchor v.cache
      ground = subst (λ (x : Pause). IsGround w stored base p h.points h.point m.next v.anchor x v.anchor v.cache) (sym free.pause_is) free.ground

    -- the end of the live build
    module _ (b : Building B C D) (live : m.execution.build ≡ Some b) (turned_build : D) (then : exec.Moment w) (is : now.marks ≡ then.marks) where
      stands : IsBuilding w stored p h.points m.next v.anchor v.cache b
      stands = subst (λ (o : Option (Building B C D)). IfSome o (IsBuilding w stored p h.points m.next v.anchor v.cache)) live h.builds.each

      none_beside : m.execution.front ≡ None
      none_beside = h.alone (subst (λ (o : Option (Building B C D)). IsSome o) (sym live) refl)

      ended_build : (count : D → ℕ) (given : Handoff (ProposedBlock B U)) → HasTurn w count m.members b.build turned_build (Ok (Done given))
          → EndsBuild w (record b { build = turned_build }) (inner w m) given then
          → ReasonsBehind w stored base event marks (Came (Turn b.job) ∷ p) m now
      ended_build count handed.Wait turn ended =
          reasons_by w stored base event marks (Came (Turn b.job) ∷ p) m now (inner w m) then refl is
          (built-reason w stored base p h.points h.point v.anchor (inner w m) (ground none_beside) h.located b
          (record { kind = b.kind; context = b.context; parent = b.parent; input = stands.input })
          stands.proposal stands.job stands.below stands.chain stands.own stands.provider _ stands.builds event marks count turned_build turn then ended)
      ended_build count (handed.Vote x) turn ended =
          told (Came (Turn b.job) ∷ p) m now _ (is ∙ ap (λ (n : exec.Moment w). n.marks) ended.becomes) (two_plain _ _ tt tt)
      ended_build count (handed.Stage x) turn ended =
          told (Came (Turn b.job) ∷ p) m now _ (is ∙ ap (λ (n : exec.Moment w). n.marks) ended.becomes) (two_plain _ _ tt tt)

    build_told : (count : D → ℕ) (j : ℕ) (then : exec.Moment w) (after : Option (Building B C D))
        → TurnsBuild w count (inner w m) m.execution.build j then after → now.marks ≡ then.marks
        → ReasonsBehind w stored base event marks (Came (Turn j) ∷ p) m now
    build_told count j then after (other none_live e same) is = none (Came (Turn j) ∷ p) m now (is ∙ ap (λ (n : exec.Moment w). n.marks) e)
    build_told count j then after (goes_on live had e more) is = none (Came (Turn j) ∷ p) m now (is ∙ ap (λ (n : exec.Moment w). n.marks) e)
    build_told count j then after (ends {b = b} {turned = turned_build} {given = given} live had e over) is =
        subst (λ (k : ℕ). ReasonsBehind w stored base event marks (Came (Turn k) ∷ p) m now) live.job
        (ended_build b live.live turned_build then is count given had e)

module _ {B C I P R D H G U : Type 0} (w : Workings B C I P R D H G U) (laws : Laws w.kind) (stored : ℕ → Option (Named B)) (base : w.States)
    (marks : List (Mark B)) (p : Past B C I) (stored_now : ℕ → Option (Named B)) (stored_is : IsStoredNow stored p stored_now)
    (counts : Counts R D H) (m now : Moment w) (h : IsUpAt w stored base p m) (up : m.loop.up ≡ true) (stand : ReasonsStand w stored p base m) where
  abbrev tables_now : Tables B C I R U
  tables_now = m.execution.state

  -- a fetch is answered
  module _ (f : ℕ) (answer : Option (Named B)) (trust : IsTrusted w stored (Came (Fetched f answer) ∷ p))
      (names : TrueNames (setting w stored) (Came (Fetched f answer) ∷ p)) (then : exec.Moment w) (is : now.marks ≡ then.marks) where
    abbrev Fetches_so : ℕ → Requested B C I → Type 0
    Fetches_so t r = Fetches tables_now f t r

    linked : (t : ℕ) (r : Requested B C I) (b : Named B) → Fetches_so t r → answer ≡ Some b
        → AreLinked (setting w stored) (gathered r.request (r.acquired ++ b ∷ []))
    linked t r b fetches own =
        AreLinked-fetched (setting w stored) p f b r fetches.fetching
        (All-at (λ (x : ℕ × Requested B C I). IsGathered (setting w stored) p x.1) tables_now.requests t r fetches.there stand.gatherings) trust.honest
        (subst (λ (o : Option (Named B)). IsAnswered (Came (Fetched f o) ∷ p)) own trust.answered)

    answered : (t : ℕ) (r : Requested B C I) → Fetches_so t r → IsFetched w stored_now (inner w m) f answer then
        → ReasonsBehind w stored base (Fetched f answer) marks (Came (Fetched f answer) ∷ p) m now
    answered t r fetches rule =
        let e : Executes w stored base p m = h.executes in
        let front : m.execution.front ≡ None = fetches-free w stored base p e.points e.point m.next tables_now m.execution.front e.placed f t r fetches in
        let free : IsFree w stored base p e.points e.point m.next tables_now =
        subst (λ (o : Option (Front B R U H)). IsPlaced w stored base p e.points e.point m.next tables_now o) front e.placed in
        reasons_by w stored base (Fetched f answer) marks (Came (Fetched f answer) ∷ p) m now (inner w m) then refl is
        (fetched-reason w stored base p e.points e.point tables_now.anchor (inner w m) e.tables
        (subst (λ (x : Pause). IsGround w stored base p e.points e.point m.next tables_now.anchor x tables_now.anchor tables_now.cache)
        (sym free.pause_is) free.ground)
        free.pause_is f answer marks names stored_now stored_is linked then rule)

    reasons-fetched : IsFetched w stored_now (inner w m) f answer then
        → ReasonsBehind w stored base (Fetched f answer) marks (Came (Fetched f answer) ∷ p) m now
    reasons-fetched (found t r b fetches own acquires) = answered t r fetches (found t r b fetches own acquires)
    reasons-fetched (waits t r fetches own verification becomes) = answered t r fetches (waits t r fetches own verification becomes)
    reasons-fetched (declines t r fetches own proposal concludes) = answered t r fetches (declines t r fetches own proposal concludes)
    reasons-fetched (dead none_live same) =
        reasons_none w stored base (Fetched f answer) marks (Came (Fetched f answer) ∷ p) m now (is ∙ ap (λ (n : exec.Moment w). n.marks) same)

  -- a job has a turn
  module _ (j : ℕ) (trust : IsTrusted w stored (Came (Turn j) ∷ p)) where
    reasons-run : (then : exec.Moment w) (after : Option (Front B R U H)) → Completes w counts.run (inner w m) m.execution.front j then after
        → now.marks ≡ then.marks → ReasonsBehind w stored base (Turn j) marks (Came (Turn j) ∷ p) m now
    reasons-run then after (candidate steps same) is =
        reasons_by w stored base (Turn j) marks (Came (Turn j) ∷ p) m now (inner w m) then refl is
        (turned-reasons w laws stored base (Turn j) marks p m h.executes h.ways (IsTrusted-before w stored (Came (Turn j)) p trust).rise j counts.run then steps
        (front-finalized w stored base p m h up))
    reasons-run then after (finalized off steps same) is =
        final_told w laws stored base (Turn j) marks (Came (Turn j) ∷ p) m now counts.run j then.marks after steps is

    reasons-turns : TurnsJob w counts j m now → ReasonsBehind w stored base (Turn j) marks (Came (Turn j) ∷ p) m now
    reasons-turns (build {then = then} {after = after} builds r e) =
        build_told w laws stored base (Turn j) marks p m now h.executes counts.build j then after r (ap (λ (n : Moment w). n.marks) e)
    reasons-turns (hook {marks = ms} {after = after} not_built hooks r e) =
        hook_told w laws stored base (Turn j) marks (Came (Turn j) ∷ p) m now counts.hook j ms after r (ap (λ (n : Moment w). n.marks) e)
    reasons-turns (run {then = then} {after = after} not_built not_hooked r e) = reasons-run then after r (ap (λ (n : Moment w). n.marks) e)

  -- Each false verdict and each decline after an event that is taken in has its reason.
  pub reasons-takes_in : (e : Event B C I) → IsTrusted w stored (Came e ∷ p) → TrueNames (setting w stored) (Came e ∷ p)
      → TakesIn w stored_now counts m now e → ReasonsBehind w stored base e marks (Came e ∷ p) m now
  reasons-takes_in e trust names (enters x is) = none w laws stored base e marks (Came e ∷ p) m now (ap (λ (n : Moment w). n.marks) is)
  reasons-takes_in e trust names (cancels {t = t} r) =
      told w laws stored base e marks (Came e ∷ p) m now r.marks (ap (λ (n : Moment w). n.marks) r.becomes)
      (gives_up_plain m.execution.state r.state m.execution.build r.build t r.marks r.gives_up)
  reasons-takes_in _ trust names (fetched {f = f} {answer = answer} {then = then} r is) =
      reasons-fetched f answer trust names then (ap (λ (n : Moment w). n.marks) is) r
  reasons-takes_in _ trust names (turns {j = j} r) = reasons-turns j trust r
  reasons-takes_in e trust names (flushes r) = none w laws stored base e marks (Came e ∷ p) m now (ap (λ (n : Moment w). n.marks) r.becomes)
  reasons-takes_in e trust names (stops is) = none w laws stored base e marks (Came e ∷ p) m now (ap (λ (n : Moment w). n.marks) is)
  reasons-takes_in e trust names (progresses is) = none w laws stored base e marks (Came e ∷ p) m now (ap (λ (n : Moment w). n.marks) is)
  reasons-takes_in e trust names (restarts is) = none w laws stored base e marks (Came e ∷ p) m now (ap (λ (n : Moment w). n.marks) is)
