-- Marks are in their places after every event that is taken in, but for a restart.
use Rattle.std.proofs.Common.{◌≡◌, ◌∷◌, [], ℕ, true, Option, Ok, Err, Result, refl, sym, ap, ◌∙◌, subst, append-nil}
use Rattle.std.proofs.lemmas.List.Elements.{All-nil}
use Rattle.stateful_base.specs.Names.{Named}
use Rattle.stateful_base.specs.declared.outcome.Moved.{Moved}
use Rattle.stateful_base.specs.declared.outcome.Moved.TheVariants.{Pending, Done}
use Rattle.stateful_db.specs.Laws.{Laws}
use Rattle.stateful_history.specs.Live.{live_job, names_live}
use Rattle.stateful_history.specs.Past.{Past, Came}
use Rattle.stateful_history.specs.Stops.{IsRestart}
use Rattle.stateful_history.specs.declared.event.Event.{Event}
use Rattle.stateful_history.specs.declared.event.Event.TheVariants as event
use Rattle.stateful_db.specs.declared.application.AppFault.{AppFault}
use Rattle.stateful_exec_model.specs.Ending.{TurnsRun, SettlesBy}
use Rattle.stateful_exec_model.specs.Finalizing.{Completes}
use Rattle.stateful_exec_model.specs.Finalizing.{candidate, finalized, turned, not_live}
use Rattle.stateful_exec_model.specs.Moments as exec
use Rattle.stateful_exec_model.specs.Workings.{Workings}
use Rattle.stateful_exec_model.specs.declared.front.Front.{Front}
use Rattle.stateful_exec_tables.specs.declared.state.Tables.{Tables}
use Rattle.stateful_loop_model.specs.Intake.{Counts, TurnsJob, build, hook, run, Builds, Hooks, TakesIn, enters, cancels, fetched, turns, flushes, stops, progresses, restarts}
use Rattle.stateful_loop_model.specs.Moments.{Moment, inner, with_inner}
use Rattle.stateful_loop_laws.specs.Execution.{NamesBehind}
use Rattle.stateful_loop_laws.specs.Places.{PlacesKept, PlacesBehind}
use Rattle.stateful_loop_laws.specs.RuleMarks.{MarksBehind}
use Rattle.stateful_loop_laws.specs.Stands.{IsUpAt}
use Rattle.stateful_loop_laws.proofs.duly.MarksOfRules.{taken_in_marks}
use Rattle.stateful_loop_laws.proofs.events.NamesBehind.{NamesBehind-before}
use Rattle.stateful_loop_laws.proofs.places.Built.{places-build}
use Rattle.stateful_loop_laws.proofs.places.Events.{kept-came, places-besides, places-cancels}
use Rattle.stateful_loop_laws.proofs.places.Fetched.{places-fetched}
use Rattle.stateful_loop_laws.proofs.places.Settled.{places-settles}
use Rattle.stateful_loop_laws.proofs.places.Still.{IsStill, places-still}
use Rattle.stateful_loop_laws.proofs.places.Turned.{places-hook, places-final}
use Rattle.stateful_loop_laws.proofs.execution.RunTurned.{none_live}

module _ {B C I P R D H G U : Type 0} (w : Workings B C I P R D H G U) (laws : Laws w.kind) (stored : ℕ → Option (Named B)) (base : w.States)
    (p : Past B C I) (stored_now : ℕ → Option (Named B)) (counts : Counts R D H) (m now : Moment w) (h : IsUpAt w stored base p m)
    (k : PlacesKept w stored p m) where
  stepped : (j : ℕ) → PlacesKept w stored (Came (event.Turn j) ∷ p) m → (then : exec.Moment w) (running : Tables B C I R U)
      (answer : Result (Moved (Option U)) AppFault) → TurnsRun w counts.run m.members j m.execution.state running answer
      → SettlesBy w (record (inner w m) { state = running }) j answer then
      → PlacesBehind w stored base (Came (event.Turn j) ∷ p) m (with_inner w m then)
  stepped j kept then running (Ok Pending) had is =
      subst (λ (n : exec.Moment w). PlacesBehind w stored base (Came (event.Turn j) ∷ p) m (with_inner w m n)) (sym is)
      (places-still w stored base (Came (event.Turn j) ∷ p) m _ [] (sym (append-nil m.marks)) tt (All-nil IsStill)
      (ap (λ (v : Tables B C I R U). v.requests) had.state) (ap (λ (v : Tables B C I R U). v.queued) had.state)
      (ap (λ (v : Tables B C I R U). v.cache) had.state) refl refl refl kept)
  stepped j kept then running (Ok (Done o)) had settles =
      places-settles w laws stored base p j m h.executes h.ways k kept counts.run o running then had settles
  stepped j kept then running (Err fault) had settles = absurd settles

  run_turned : (j : ℕ) → live_job j p ≡ true → PlacesKept w stored (Came (event.Turn j) ∷ p) m → (then : exec.Moment w)
      (next : Option (Front B R U H))
      → (Builds w j m → ⊥) → (Hooks w j m → ⊥) → Completes w counts.run (inner w m) m.execution.front j then next
      → now ≡ record (with_inner w m then) { execution = record m.execution { state = then.state; front = next } }
      → PlacesBehind w stored base (Came (event.Turn j) ∷ p) m now
  run_turned j live kept then next unbuilt unhooked (candidate steps same) is =
      let so : now ≡ with_inner w m then =
      is ∙ ap (λ (o : Option (Front B R U H)). record (with_inner w m then)
      { execution = record m.execution { state = then.state; front = o } }) same in
      subst (λ (n : Moment w). PlacesBehind w stored base (Came (event.Turn j) ∷ p) m n) (sym so)
      (stepped j kept then steps.running steps.answer steps.turns steps.settles)
  run_turned j live kept then next unbuilt unhooked (finalized no_run (turned {b = b} {run = old} on had settles) same) is =
      let so : now ≡ record m { execution = record m.execution { front = next }; marks = then.marks } =
      is ∙ ap (λ (n : exec.Moment w). record (with_inner w m n) { execution = record m.execution { state = n.state; front = next } }) same in
      subst (λ (n : Moment w). PlacesBehind w stored base (Came (event.Turn j) ∷ p) m n) (sym so)
      (places-final w stored base p j m h.executes kept counts.run then.marks next b old on.is (turned on had settles))
  run_turned j live kept then next unbuilt unhooked (finalized no_run (not_live off marks after_is) same) is =
      absurd (none_live w laws stored base p m h.executes j live unbuilt unhooked no_run off)

  job_turned : (j : ℕ) → live_job j p ≡ true → PlacesKept w stored (Came (event.Turn j) ∷ p) m → TurnsJob w counts j m now
      → PlacesBehind w stored base (Came (event.Turn j) ∷ p) m now
  job_turned j live kept (build {then = then} {after = next} builds turned_it is) =
      subst (λ (n : Moment w). PlacesBehind w stored base (Came (event.Turn j) ∷ p) m n) (sym is)
      (places-build w stored base p j m h.executes kept counts.build builds.0 builds.1.live builds.1.job then next turned_it)
  job_turned j live kept (hook {marks = marks} {after = next} unbuilt hooks turned_it is) =
      subst (λ (n : Moment w). PlacesBehind w stored base (Came (event.Turn j) ∷ p) m n) (sym is)
      (places-hook w stored base p j m h.executes kept counts.hook marks next hooks.0 hooks.1 hooks.2.is turned_it)
  job_turned j live kept
      (run {then = then} {after = next} unbuilt unhooked completes is) = run_turned j live kept then next unbuilt unhooked completes is

  -- After an event that names what is live marks were made in their places, and what is kept for them is kept.
  pub places-takes_in : (e : Event B C I) → (IsRestart e → ⊥) → names_live w.kind.count p e ≡ true → NamesBehind w stored base (Came e ∷ p) m now
      → TakesIn w stored_now counts m now e → PlacesBehind w stored base (Came e ∷ p) m now
  places-takes_in e on live names (enters {x = x} is becomes) =
      places-besides w stored base p m now (Came e ∷ p) (ap (λ (n : Moment w). n.marks) becomes) (ap (λ (n : Moment w). n.execution) becomes)
      (ap (λ (n : Moment w). n.loop.front) becomes) (kept-came w stored base p m w.kind.count e on live k)
  places-takes_in _ on live names (cancels {t = t} c) =
      places-cancels w stored base p t m now (kept-came w stored base p m w.kind.count (event.Cancel t) on live k) c
  places-takes_in _ on live names (fetched {f = f} {answer = answer} {then = then} is becomes) =
      let made : MarksBehind w m now = taken_in_marks w stored_now counts m now (event.Fetched f answer) (fetched is becomes) in
      places-fetched w stored base p f answer
      (NamesBehind-before w stored base (Came (event.Fetched f answer) ∷ p) m now made.more made.marks_are names) stored_now m h.executes k
      (kept-came w stored base p m w.kind.count (event.Fetched f answer) on live k) then now is becomes
  places-takes_in _ on live names (turns {j = j} t) =
      job_turned j live (kept-came w stored base p m w.kind.count (event.Turn j) on live k) t
  places-takes_in _ on live names (flushes {k = i} {i = n} {answer = answer} f) =
      places-besides w stored base p m now (Came (event.Flushed i n answer) ∷ p) (ap (λ (n : Moment w). n.marks) f.becomes)
      (ap (λ (n : Moment w). n.execution) f.becomes) (ap (λ (n : Moment w). n.loop.front) f.becomes)
      (kept-came w stored base p m w.kind.count (event.Flushed i n answer) on live k)
  places-takes_in _ on live names (stops becomes) =
      places-besides w stored base p m now (Came event.Stop ∷ p) (ap (λ (n : Moment w). n.marks) becomes)
      (ap (λ (n : Moment w). n.execution) becomes) (ap (λ (n : Moment w). n.loop.front) becomes)
      (kept-came w stored base p m w.kind.count event.Stop on live k)
  places-takes_in _ on live names (progresses {i = i} becomes) =
      places-besides w stored base p m now (Came (event.Progress i) ∷ p) (ap (λ (n : Moment w). n.marks) becomes)
      (ap (λ (n : Moment w). n.execution) becomes) (ap (λ (n : Moment w). n.loop.front) becomes)
      (kept-came w stored base p m w.kind.count (event.Progress i) on live k)
  places-takes_in _ on live names (restarts becomes) = absurd (on tt)
