-- What waits stands after a turn of a job, an answer of a fetch, and what else serves none of it.
use Rattle.std.proofs.Common.{◌≡◌, ◌≢◌, ◌++◌, ℕ, false, List, [], ◌∷◌, All, Option, Some, None, IfSome, Result, Ok, Err, refl, sym, ap, ◌∙◌, subst}
use Rattle.std.proofs.lemmas.List.{append-nil}
use Rattle.std.proofs.lemmas.List.Elements.{All-nil, All-cons}
use Rattle.stateful_base.specs.Names.{Named}
use Rattle.stateful_base.specs.declared.outcome.Handoff.{Handoff}
use Rattle.stateful_base.specs.declared.outcome.Handoff.TheVariants.{Wait, Vote, Stage}
use Rattle.stateful_base.specs.declared.outcome.Moved.{Moved}
use Rattle.stateful_base.specs.declared.outcome.Moved.TheVariants.{Pending, Done}
use Rattle.stateful_db.specs.declared.application.AppFault.{AppFault}
use Rattle.stateful_db.specs.declared.application.ProposedBlock.{ProposedBlock}
use Rattle.stateful_db.specs.declared.barrier.Flushed.{Flushed}
use Rattle.stateful_history.specs.Past.{Past, Came}
use Rattle.stateful_history.specs.declared.event.Event.{Event}
use Rattle.stateful_history.specs.declared.event.Event.TheVariants as event
use Rattle.stateful_history.specs.declared.mark.Decision.{Decision}
use Rattle.stateful_history.specs.declared.mark.Mark.{Mark}
use Rattle.stateful_history.specs.declared.mark.How.TheVariants.{Nothing}
use Rattle.stateful_history.specs.declared.mark.Mark.TheVariants as mark
use Rattle.stateful_exec_model.specs.Built.{decided, TurnsBuild, other, goes_on, ends, EndsBuild, Gives}
use Rattle.stateful_exec_model.specs.Fetching.{IsFetched}
use Rattle.stateful_exec_model.specs.Finalizing.{SettlesHook, TurnsHook, hook_turned, unhooked, SettlesFinal, StepsFinal, turned, not_live, candidate, finalized}
use Rattle.stateful_exec_model.specs.Finalizing.{Completes}
use Rattle.stateful_exec_model.specs.Moments as exec
use Rattle.stateful_exec_model.specs.Workings.{Workings}
use Rattle.stateful_exec_model.specs.declared.building.Building.{Building}
use Rattle.stateful_exec_model.specs.declared.front.Front.{Front}
use Rattle.stateful_exec_tables.specs.declared.state.Tables.{Tables}
use Rattle.stateful_exec_laws.specs.Setting.{setting}
use Rattle.stateful_exec_laws.proofs.pauses.PassingRules.{PassesBy-fetched, PassesBy-steps}
use Rattle.stateful_loop_model.specs.Intake.{Counts, Flushes, TurnsJob, build, hook, run}
use Rattle.stateful_loop_model.specs.Moments.{Moment, inner, with_inner, with_loop}
use Rattle.stateful_loop_laws.specs.Execution.{Executes}
use Rattle.stateful_loop_laws.specs.Tickets.{TicketsStand, TicketsBehind}
use Rattle.stateful_loop_laws.proofs.tickets.Carrying.{NoJob, KeepsWaiting, still_marked, still_passing}
use Rattle.stateful_loop_laws.proofs.tickets.Grounded.{IsGrounded, grounded}
use Rattle.stateful_loop_laws.proofs.tickets.QueueRules.{grows_fetched, grows_steps}
use Rattle.stateful_loop_laws.proofs.tickets.Saying.{IsAside, IsOff, SaysSame, SaysSame-event}
use Rattle.stateful_loop_laws.proofs.tickets.Waiting.{Other}

module _ {B C I P R D H G U : Type 0} (w : Workings B C I P R D H G U) (stored : ℕ → Option (Named B)) (base : w.States) (p : Past B C I)
    (m : Moment w) (x : Executes w stored base p m) (s : TicketsStand w stored p m) where
  abbrev Waits_for : ℕ → Type 0
  Waits_for = Other w stored m.execution.state m.execution.build NoJob

  ground : IsGrounded w stored p m.execution.state m.execution.build
  ground = grounded w stored base p m x

  module _ (e : Event B C I) (off : IsOff Waits_for e) where
    abbrev came : Past B C I
    came = Came e ∷ p

    says : SaysSame (setting w stored) Waits_for p came
    says = SaysSame-event (setting w stored) Waits_for p e off

    -- marks of jobs, where the tables stay
    jobs_marked : (now : Moment w) (marks : List (Mark B)) → now.marks ≡ m.marks ++ marks → All (IsAside Waits_for) marks
        → now.execution.state ≡ m.execution.state → now.execution.build ≡ m.execution.build
        → KeepsWaiting w stored m now → TicketsBehind w stored came m now
    jobs_marked now marks made aside state same k =
        still_marked w stored p came m now marks ground says made aside (ap (λ (v : Tables B C I R U). v.requests) state)
        (ap (λ (v : Tables B C I R U). v.queued) state) (ap (λ (v : Tables B C I R U). v.recovered) state)
        (λ t h. subst (λ (o : Option (Building B C D)). IfSome o (λ b. b.ticket ≢ t)) (sym same) h) k s

    one_aside : (mark : Mark B) → IsAside Waits_for mark → All (IsAside Waits_for) (mark ∷ [])
    one_aside mark h = All-cons (IsAside Waits_for) mark [] h (All-nil (IsAside Waits_for))

    two_aside : (first second : Mark B) → IsAside Waits_for first → IsAside Waits_for second → All (IsAside Waits_for) (first ∷ second ∷ [])
    two_aside first second h k = All-cons (IsAside Waits_for) first (second ∷ []) h (one_aside second k)

    -- where nothing of what waits changes, and no mark is made
    pub unmarked : (now : Moment w) → now.marks ≡ m.marks → now.execution ≡ m.execution → KeepsWaiting w stored m now
        → TicketsBehind w stored came m now
    unmarked now made same k =
        jobs_marked now [] (made ∙ sym (append-nil m.marks)) (All-nil (IsAside Waits_for)) (ap (λ y. y.state) same) (ap (λ y. y.build) same) k

    -- a build goes on, or ends with an answer to its own request
    module _ (j : ℕ) (b : Building B C D) (live : m.execution.build ≡ Some b) where
      own_out : Waits_for b.ticket → ⊥
      own_out o = let h : b.ticket ≢ b.ticket = subst (λ (o : Option (Building B C D)). IfSome o (λ c. c.ticket ≢ b.ticket)) live o.1 in h refl

      abbrev ended_at : exec.Moment w → Moment w
      ended_at then = record (with_inner w m then) { execution = record m.execution { state = then.state; build = None } }

      answered : (turned_to : D) (then : exec.Moment w) (q : ProposedBlock B U) (handed : Decision)
          → Gives w (record b { build = turned_to }) (inner w m) q handed then → TicketsBehind w stored came m (ended_at then)
      answered turned_to then q handed g =
          still_marked w stored p came m (ended_at then) _ ground says (ap (λ (n : exec.Moment w). n.marks) g.becomes)
          (two_aside (mark.Built b.job b.ticket g.block) (mark.Answered b.ticket (decided b.kind handed) g.block) tt own_out)
          (ap (λ (n : exec.Moment w). n.state.requests) g.becomes) (ap (λ (n : exec.Moment w). n.state.queued) g.becomes)
          (ap (λ (n : exec.Moment w). n.state.recovered) g.becomes)
          (λ t h. tt) (record { queue = refl; actions = refl; front = refl; held = refl }) s

      ended : (turned_to : D) (given : Handoff (ProposedBlock B U)) (then : exec.Moment w)
          → EndsBuild w (record b { build = turned_to }) (inner w m) given then → TicketsBehind w stored came m (ended_at then)
      ended turned_to Wait then is =
          still_marked w stored p came m (ended_at then) _ ground says (ap (λ (n : exec.Moment w). n.marks) is)
          (two_aside (mark.Ended b.job Nothing) (mark.Declined b.ticket) tt own_out)
          (ap (λ (n : exec.Moment w). n.state.requests) is) (ap (λ (n : exec.Moment w). n.state.queued) is)
          (ap (λ (n : exec.Moment w). n.state.recovered) is)
          (λ t h. tt) (record { queue = refl; actions = refl; front = refl; held = refl }) s
      ended turned_to (Vote q) then is = answered turned_to then q _ is
      ended turned_to (Stage q) then is = answered turned_to then q _ is

    turned_build : (count : D → ℕ) (j : ℕ) (then : exec.Moment w) (after_build : Option (Building B C D))
        → TurnsBuild w count (inner w m) m.execution.build j then after_build
        → TicketsBehind w stored came m (record (with_inner w m then) { execution = record m.execution { state = then.state; build = after_build } })
    turned_build count j then after_build (other none_live same stays) =
        jobs_marked (record (with_inner w m then) { execution = record m.execution { state = then.state; build = after_build } }) []
        (ap (λ (n : exec.Moment w). n.marks) same ∙ sym (append-nil m.marks)) (All-nil (IsAside Waits_for))
        (ap (λ (n : exec.Moment w). n.state) same) stays
        (record { queue = refl; actions = refl; front = refl; held = refl })
    turned_build count j then after_build (goes_on {b = b} {turned = turned_to} live had same becomes) =
        still_marked w stored p came m
        (record (with_inner w m then) { execution = record m.execution { state = then.state; build = after_build } }) [] ground says
        (ap (λ (n : exec.Moment w). n.marks) same ∙ sym (append-nil m.marks)) (All-nil (IsAside Waits_for))
        (ap (λ (n : exec.Moment w). n.state.requests) same) (ap (λ (n : exec.Moment w). n.state.queued) same)
        (ap (λ (n : exec.Moment w). n.state.recovered) same)
        (λ t h. subst (λ (o : Option (Building B C D)). IfSome o (λ c. c.ticket ≢ t)) (sym becomes)
        (subst (λ (o : Option (Building B C D)). IfSome o (λ c. c.ticket ≢ t)) live.live h))
        (record { queue = refl; actions = refl; front = refl; held = refl }) s
    turned_build count j then after_build (ends {b = b} {turned = turned_to} {given = given} live had is gone) =
        subst (λ (o : Option (Building B C D)). TicketsBehind w stored came m
        (record (with_inner w m then) { execution = record m.execution { state = then.state; build = o } })) (sym gone)
        (ended j b live.live turned_to given then is)

    -- a hook goes on, or has ended
    abbrev hooked_at : List (Mark B) → Option (Front B R U H) → Moment w
    hooked_at marks front = record m { execution = record m.execution { front = front }; marks = marks }

    settled_hook : (j : ℕ) (b : Named B) (now : H) (answer : Result (Moved Unit) AppFault) (marks : List (Mark B)) (front : Option (Front B R U H))
        → SettlesHook w j b now answer m.marks marks front
        → TicketsBehind w stored came m (hooked_at marks front)
    settled_hook j b now (Ok Pending) marks front h =
        jobs_marked (hooked_at marks front) [] (h.0 ∙ sym (append-nil m.marks)) (All-nil (IsAside Waits_for)) refl refl
        (record { queue = refl; actions = refl; front = refl; held = refl })
    settled_hook j b now (Ok (Done over)) marks front h =
        jobs_marked (hooked_at marks front) _ h.0 (one_aside _ tt) refl refl (record { queue = refl; actions = refl; front = refl; held = refl })
    settled_hook j b now (Err fault) marks front h = absurd h

    turned_hook : (count : H → ℕ) (j : ℕ) (marks : List (Mark B)) (front : Option (Front B R U H))
        → TurnsHook w count m.members m.execution.front j m.marks marks front → TicketsBehind w stored came m (hooked_at marks front)
    turned_hook count j marks front (hook_turned {b = b} {hook = was} {now = now} {answer = answer} live had settles) =
        settled_hook j b now answer marks front settles
    turned_hook count j marks front (unhooked dead same is) =
        jobs_marked (hooked_at marks front) [] (same ∙ sym (append-nil m.marks)) (All-nil (IsAside Waits_for)) refl refl
        (record { queue = refl; actions = refl; front = refl; held = refl })

    -- a run goes on, or has ended
    abbrev run_at : exec.Moment w → Option (Front B R U H) → Moment w
    run_at then front = record (with_inner w m then) { execution = record m.execution { state = then.state; front = front } }

    settled_run : (j : ℕ) (b : Named B) (now : R) (answer : Result (Moved (Option U)) AppFault) (then : exec.Moment w)
        (front : Option (Front B R U H)) → then ≡ record (inner w m) { marks = then.marks }
        → SettlesFinal w j b now answer m.marks then.marks front → TicketsBehind w stored came m (run_at then front)
    settled_run j b now (Ok Pending) then front is h =
        jobs_marked (run_at then front) [] (h.0 ∙ sym (append-nil m.marks)) (All-nil (IsAside Waits_for))
        (ap (λ (n : exec.Moment w). n.state) is) refl (record { queue = refl; actions = refl; front = refl; held = refl })
    settled_run j b now (Ok (Done over)) then front is h =
        jobs_marked (run_at then front) _ h.2 (one_aside _ tt) (ap (λ (n : exec.Moment w). n.state) is) refl
        (record { queue = refl; actions = refl; front = refl; held = refl })
    settled_run j b now (Err fault) then front is h = absurd h

    turned_final : (count : R → ℕ) (j : ℕ) (then : exec.Moment w) (front : Option (Front B R U H)) → then ≡ record (inner w m) { marks = then.marks }
        → StepsFinal w count m.members m.execution.front j m.marks then.marks front → TicketsBehind w stored came m (run_at then front)
    turned_final count j then front is (turned {b = b} {run = was} {turned = now} {answer = answer} live had settles) =
        settled_run j b now answer then front is settles
    turned_final count j then front is (not_live dead same gone) =
        jobs_marked (run_at then front) [] (same ∙ sym (append-nil m.marks)) (All-nil (IsAside Waits_for))
        (ap (λ (n : exec.Moment w). n.state) is) refl (record { queue = refl; actions = refl; front = refl; held = refl })

    module _ (bare : m.execution.state.recovered ≡ []) where
      turned_run : (count : R → ℕ) (j : ℕ) (then : exec.Moment w) (front : Option (Front B R U H))
          → Completes w count (inner w m) m.execution.front j then front → TicketsBehind w stored came m (run_at then front)
      turned_run count j then front (candidate steps is) =
          still_passing w stored p came m (run_at then front) then ground says
          (PassesBy-steps w NoJob Waits_for count (inner w m) then j (λ never. never) (λ k never. absurd never) (λ t o. o.0) steps)
          (grows_steps w count (inner w m) then j ground.orderly steps) refl refl refl bare
          (record { queue = refl; actions = refl; front = refl; held = refl }) s
      turned_run count j then front (finalized absent steps is) = turned_final count j then front is steps

      -- a job has a turn
      pub turned_job : (counts : Counts R D H) (j : ℕ) (now : Moment w) → TurnsJob w counts j m now → TicketsBehind w stored came m now
      turned_job counts j now (build {then = then} {after = after_build} live t is) = subst (λ (n : Moment w). TicketsBehind w stored came m n)
          (sym is) (turned_build counts.build j then after_build t)
      turned_job counts j now (hook {marks = marks} {after = front} dead live h is) = subst (λ (n : Moment w). TicketsBehind w stored came m n)
          (sym is) (turned_hook counts.hook j marks front h)
      turned_job counts j now (run {then = then} {after = front} unbuilt dead c is) = subst (λ (n : Moment w). TicketsBehind w stored came m n)
          (sym is) (turned_run counts.run j then front c)

      -- a fetch is answered
      pub fetched_at : (stored_now : ℕ → Option (Named B)) (f : ℕ) (answer : Option (Named B)) (then : exec.Moment w)
          → IsFetched w stored_now (inner w m) f answer then → TicketsBehind w stored came m (with_inner w m then)
      fetched_at stored_now f answer then is =
          still_passing w stored p came m (with_inner w m then) then ground says
          (PassesBy-fetched w NoJob Waits_for stored_now (inner w m) then f answer (λ k never. absurd never) (λ t o. o.0) is)
          (grows_fetched w stored_now (inner w m) then f answer ground.orderly is) refl refl refl bare
          (record { queue = refl; actions = refl; front = refl; held = refl }) s

  -- an answer of a fetch, and a turn
  pub fetched-tickets : (stored_now : ℕ → Option (Named B)) → m.execution.state.recovered ≡ []
      → (f : ℕ) (answer : Option (Named B)) (then : exec.Moment w) (now : Moment w) → IsFetched w stored_now (inner w m) f answer then
      → now ≡ with_inner w m then
      → TicketsBehind w stored (Came (event.Fetched f answer) ∷ p) m now
  fetched-tickets stored_now bare f answer then now is become =
      subst (λ (n : Moment w). TicketsBehind w stored (Came (event.Fetched f answer) ∷ p) m n) (sym become)
      (fetched_at (event.Fetched f answer) tt bare stored_now f answer then is)

  -- a turn of a job
  pub turns-tickets : m.execution.state.recovered ≡ [] → (counts : Counts R D H) (j : ℕ) (now : Moment w) → TurnsJob w counts j m now
      → TicketsBehind w stored (Came (event.Turn j) ∷ p) m now
  turns-tickets bare counts j now t = turned_job (event.Turn j) tt bare counts j now t

  -- an answer of a database to a barrier
  pub flushes-tickets : (k i : ℕ) (answer : Flushed) (now : Moment w) → Flushes w k i answer m now
      → TicketsBehind w stored (Came (event.Flushed k i answer) ∷ p) m now
  flushes-tickets k i answer now f =
      subst (λ (n : Moment w). TicketsBehind w stored (Came (event.Flushed k i answer) ∷ p) m n) (sym f.becomes)
      (unmarked (event.Flushed k i answer) tt _ refl refl (record { queue = refl; actions = refl; front = refl; held = refl }))

  -- the machine is to stop
  pub stops-tickets : (now : Moment w) → now ≡ with_loop w m (record m.loop { up = false }) → TicketsBehind w stored (Came event.Stop ∷ p) m now
  stops-tickets now is =
      subst (λ (n : Moment w). TicketsBehind w stored (Came event.Stop ∷ p) m n) (sym is)
      (unmarked event.Stop tt _ refl refl (record { queue = refl; actions = refl; front = refl; held = refl }))

  -- nothing happens
  pub same-tickets : (e : Event B C I) → IsOff Waits_for e → (now : Moment w) → now ≡ m → TicketsBehind w stored (Came e ∷ p) m now
  same-tickets e off now is = subst (λ (n : Moment w). TicketsBehind w stored (Came e ∷ p) m n) (sym is)
      (unmarked e off m refl refl (record { queue = refl; actions = refl; front = refl; held = refl }))
