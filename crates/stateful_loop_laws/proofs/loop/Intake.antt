-- What the loop keeps stands after every event that is taken in, but for a restart.
use Rattle.std.proofs.Common.{◌≡◌, ◌∷◌, [], ℕ, Option, Some, refl, sym, ap, ◌∙◌}
use Rattle.std.proofs.lemmas.List.{append-nil}
use Rattle.stateful_base.specs.Names.{Named}
use Rattle.stateful_db.specs.Laws.{Laws}
use Rattle.stateful_history.specs.Past.{Past, Came}
use Rattle.stateful_history.specs.Stops.{IsRestart}
use Rattle.stateful_history.specs.declared.event.Event.{Event}
use Rattle.stateful_history.specs.declared.event.Event.TheVariants as event
use Rattle.stateful_exec_model.specs.Workings.{Workings}
use Rattle.stateful_exec_laws.proofs.pauses.PassingRules.{PassesBy-fetched}
use Rattle.stateful_loop_laws.specs.Durability.{LoopBehind}
use Rattle.stateful_loop_laws.specs.Stands.{LoopStands}
use Rattle.stateful_loop_laws.proofs.loop.CalmItems.{IsCalmItem}
use Rattle.stateful_loop_laws.proofs.loop.Calm.{HasSameLoop, LoopStands-calm, LoopBehind-calm, LoopBehind-is}
use Rattle.stateful_loop_laws.proofs.loop.Flushes.{LoopStands-flushes}
use Rattle.stateful_loop_laws.proofs.loop.Passes.{NoneOf}
use Rattle.stateful_loop_model.proofs.SoundingTurns.{gives_up_anchor, builds_stays, fetched_stays}
use Rattle.stateful_loop_model.proofs.Staying.{Stays}
use Rattle.stateful_loop_model.specs.Intake.{Counts, message_by, TurnsJob, build, hook, run, TakesIn, enters, cancels, fetched, turns, flushes, stops, progresses, restarts}
use Rattle.stateful_loop_model.specs.Moments.{Moment, inner, with_inner}
use Rattle.stateful_loop_model.specs.Sound.{IsUp}
use Rattle.stateful_loop_model.specs.declared.message.Message.{Message}
use Rattle.stateful_loop_laws.proofs.loop.Turns.{IsCalmStep, no_mark, given_up_marks, passed, build_marks, hook_marks, run_marks}

-- what enters the mailbox is calm
message_calm : {B C I : Type 0} (e : Event B C I) (x : Message B C I) → message_by e ≡ Some x → IsCalmItem (Came e)
message_calm (event.Restart floor keep) x is = absurd (cc)
message_calm (event.Flushed k i answer) x is = absurd (cc)
message_calm e x is = tt

module _ {B C I P R D H G U : Type 0} (w : Workings B C I P R D H G U) (stored : ℕ → Option (Named B)) (base : w.States) (p : Past B C I)
    (m now : Moment w) (h : LoopStands w stored base p m) where
  -- the event is calm, and so are the marks
  behind_calm : (e : Event B C I) (mid : Moment w) → IsCalmItem (Came e) → now ≡ mid → IsCalmStep m.marks mid.marks → HasSameLoop w m mid
      → LoopBehind w stored base (Came e ∷ p) m now
  behind_calm e mid calm is step same =
      LoopBehind-is w stored base (Came e ∷ p) m now mid is (LoopBehind-calm w stored base (Came e ∷ p) m mid step.more step.marks_are step.calm same
      (LoopStands-calm w stored base p (Came e) m m calm
      (record { members = refl; anchor = refl; durable = refl; barriers = refl; next_barrier = refl }) h))

  behind_turns : (counts : Counts R D H) (j : ℕ) → TurnsJob w counts j m now → LoopBehind w stored base (Came (event.Turn j) ∷ p) m now
  behind_turns counts j (build {then = then} {after = after} live turned e) =
      let stays : Stays w (inner w m) then = builds_stays w counts.build (inner w m) m.execution.build j then after turned in
      behind_calm (event.Turn j) _ tt e (build_marks w counts.build (inner w m) m.execution.build j then after turned)
      (record { members = stays.members; anchor = stays.anchor; durable = refl; barriers = refl; next_barrier = refl })
  behind_turns counts j (hook {marks = marks} {after = after} none live turned e) =
      behind_calm (event.Turn j) _ tt e (hook_marks w counts.hook m.members m.execution.front j m.marks marks after turned)
      (record { members = refl; anchor = refl; durable = refl; barriers = refl; next_barrier = refl })
  behind_turns counts j (run {then = then} {after = after} none unhooked turned e) =
      let r = run_marks w counts.run (inner w m) m.execution.front j then after turned in
      behind_calm (event.Turn j) _ tt e r.0
      (record { members = r.1.members; anchor = r.1.anchor; durable = refl; barriers = refl; next_barrier = refl })

  -- an event is taken in
  pub LoopBehind-takes_in : Laws w.kind → IsUp w m → (stored_now : ℕ → Option (Named B)) (counts : Counts R D H) (e : Event B C I) → (IsRestart e → ⊥)
      → TakesIn w stored_now counts m now e
      → LoopBehind w stored base (Came e ∷ p) m now
  LoopBehind-takes_in laws u stored_now counts e on (enters {x = x} is becomes) =
      behind_calm e _ (message_calm e x is) becomes (no_mark m.marks m.marks refl)
      (record { members = refl; anchor = refl; durable = refl; barriers = refl; next_barrier = refl })
  LoopBehind-takes_in laws u stored_now counts e on (cancels {t = t} c) =
      behind_calm (event.Cancel t) _ tt c.becomes
      (record { more = c.marks; marks_are = refl; calm = given_up_marks m.execution.state c.state m.execution.build c.build t c.marks c.gives_up })
      (record {
        members = refl;
        anchor = gives_up_anchor m.execution.state c.state m.execution.build c.build t c.marks c.gives_up;
        durable = refl;
        barriers = refl;
        next_barrier = refl;
      })
  LoopBehind-takes_in laws u stored_now counts e on (fetched {f = f} {answer = answer} {then = then} is becomes) =
      let stays : Stays w (inner w m) then = fetched_stays w stored_now (inner w m) f answer then is in
      behind_calm (event.Fetched f answer) (with_inner w m then) tt becomes
      (passed w (inner w m) then (PassesBy-fetched w NoneOf NoneOf stored_now (inner w m) then f answer (λ k own. absurd own)
      (λ t own. absurd own) is))
      (record { members = stays.members; anchor = stays.anchor; durable = refl; barriers = refl; next_barrier = refl })
  LoopBehind-takes_in laws u stored_now counts e on (turns {j = j} t) = behind_turns counts j t
  LoopBehind-takes_in laws u stored_now counts e on (flushes {k = k} {i = i} {answer = answer} f) = record {
    more = [];
    marks_are = ap (λ n. n.marks) f.becomes ∙ sym (append-nil m.marks);
    loop = LoopStands-flushes w laws stored base p k i m now u h answer f;
    said = tt;
  }
  LoopBehind-takes_in laws u stored_now counts e on (stops becomes) =
      behind_calm event.Stop _ tt becomes (no_mark m.marks m.marks refl)
      (record { members = refl; anchor = refl; durable = refl; barriers = refl; next_barrier = refl })
  LoopBehind-takes_in laws u stored_now counts e on (progresses {i = i} becomes) =
      behind_calm (event.Progress i) m tt becomes (no_mark m.marks m.marks refl)
      (record { members = refl; anchor = refl; durable = refl; barriers = refl; next_barrier = refl })
  LoopBehind-takes_in laws u stored_now counts e on (restarts becomes) = absurd (on tt)
