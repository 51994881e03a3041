-- Whatever event is taken in by a sound machine that is up, the machine is sound behind it.
use Rattle.std.proofs.Common.{◌≡◌, ℕ, List, Result, Ok, Err, Option, Some, None, refl, sym, ap, ◌∙◌, subst}
use Rattle.stateful_base.specs.Names.{Named}
use Rattle.stateful_base.specs.declared.outcome.Moved.{Moved}
use Rattle.stateful_base.specs.declared.outcome.Moved.TheVariants.{Pending, Done}
use Rattle.stateful_db.specs.Laws.{Laws}
use Rattle.stateful_db.specs.declared.application.AppFault.{AppFault}
use Rattle.stateful_durability.specs.Durability.{Coverage}
use Rattle.stateful_history.specs.declared.event.Event.{Event}
use Rattle.stateful_history.specs.declared.mark.Mark.{Mark}
use Rattle.stateful_exec_model.specs.Finalizing.{front_at, SettlesHook, TurnsHook, hook_turned, unhooked, SettlesFinal, StepsFinal, turned, not_live, candidate, finalized}
use Rattle.stateful_exec_model.specs.Finalizing.{Completes}
use Rattle.stateful_exec_model.specs.Moments as exec
use Rattle.stateful_exec_model.specs.Workings.{Workings}
use Rattle.stateful_exec_model.specs.declared.front.Front.{Front}
use Rattle.stateful_exec_model.specs.declared.front.Stage.{Stage}
use Rattle.stateful_exec_model.specs.declared.front.Stage.TheVariants.{Running, Ran, Advanced, Hooking}
use Rattle.stateful_loop_model.proofs.SoundingFlushes.{flush_sound}
use Rattle.stateful_loop_model.proofs.SoundingFront.{agrees_at, turned_sound}
use Rattle.stateful_loop_model.proofs.SoundingKept.{Sound-is, Sound-kept, kept_inner}
use Rattle.stateful_loop_model.proofs.SoundingRules.{queue_sound, down_sound}
use Rattle.stateful_loop_model.proofs.SoundingTurns.{gives_up_anchor, steps_stays, builds_stays, fetched_stays}
use Rattle.stateful_loop_model.proofs.Staying.{Stays}
use Rattle.stateful_loop_model.specs.Intake.{Counts, Cancels, TurnsJob, build, hook, run, TakesIn, enters, cancels, fetched, turns, flushes, stops, progresses, restarts}
use Rattle.stateful_loop_model.specs.Moments.{Moment, inner, with_inner}
use Rattle.stateful_loop_model.specs.Sound.{AgreesWith, FrontAgrees, IsUp, Sound}
use Rattle.stateful_loop_model.specs.declared.tables.Finalizing.{Finalizing}

module _ {B C I P R D H G U : Type 0} (w : Workings B C I P R D H G U) where
  -- a machine that is up is sound
  pub up_sound : Laws w.kind → (m : Moment w) → IsUp w m → Sound w m
  up_sound laws m u = record { none_away = laws.places.away_here m.members u.point u.here; up = λ _. u }

  -- nothing of execution is in front where nothing of the loop is
  none_in_front : {b : Named B} {s : Stage R U H} (front : Option (Front B R U H)) → front ≡ None → front ≡ front_at b s → ⊥
  none_in_front front none some = let e : None ≡ front_at _ _ = sym none ∙ some in let never : ⊥ = cc in never

  -- the stage of the finalization in front is another one
  restaged : (c : Coverage) (f : Option (Finalizing B G)) (front after : Option (Front B R U H)) (b : Named B) (s t : Stage R U H)
      → front ≡ front_at b s → after ≡ front_at b t → ((g : Finalizing B G) → AgreesWith w c g s → AgreesWith w c g t) → FrontAgrees w c f front → FrontAgrees w c f after
  restaged c None front after b s t is become agrees h = absurd (none_in_front front h is)
  restaged c (Some f) front after b s t is become agrees h =
      let at = agrees_at w c f front b s h is in
      (t, become ∙ ap (λ n. front_at n t) (sym at.0), agrees f at.1)

  -- a hook goes on, or has ended
  settled_hook : (c : Coverage) (f : Option (Finalizing B G)) (front after : Option (Front B R U H)) (j : ℕ) (b : Named B) (was now : H)
      (answer : Result (Moved _) AppFault) (old new : List (Mark B)) → front ≡ front_at b (Hooking j was)
      → SettlesHook w j b now answer old new after → FrontAgrees w c f front → FrontAgrees w c f after
  settled_hook c f front after j b was now (Ok Pending) old new is settles h = restaged c f front after b (Hooking j was) (Hooking j now) is settles.1 (λ g a. a) h
  settled_hook c f front after j b was now (Ok (Done ended)) old new is settles h = restaged c f front after b (Hooking j was) Advanced is settles.1 (λ g a. (a.1, a.2)) h
  settled_hook c f front after j b was now (Err fault) old new is settles h = absurd settles

  hook_front : (c : Coverage) (f : Option (Finalizing B G)) (count : H → ℕ) (m : w.kind.Members) (front after : Option (Front B R U H)) (j : ℕ) (old new : List (Mark B))
      → TurnsHook w count m front j old new after → FrontAgrees w c f front → FrontAgrees w c f after
  hook_front c f count m front after j old new (hook_turned {b = b} {hook = was} {now = now} {answer = answer} live had settles) h =
      settled_hook c f front after j b was now answer old new live.is settles h
  hook_front c f count m front after j old new (unhooked dead e is) h = subst (λ x. FrontAgrees w c f x) (sym is) h

  -- a run goes on, or has led to its batch
  settled_run : (c : Coverage) (f : Option (Finalizing B G)) (front after : Option (Front B R U H)) (j : ℕ) (b : Named B) (was now : R)
      (answer : Result (Moved (Option U)) AppFault) (old new : List (Mark B)) → front ≡ front_at b (Running j was)
      → SettlesFinal w j b now answer old new after → FrontAgrees w c f front → FrontAgrees w c f after
  settled_run c f front after j b was now (Ok Pending) old new is settles h = restaged c f front after b (Running j was) (Running j now) is settles.1 (λ g a. a) h
  settled_run c f front after j b was now (Ok (Done ended)) old new is settles h = restaged c f front after b (Running j was) (Ran settles.0) is settles.3 (λ g a. a) h
  settled_run c f front after j b was now (Err fault) old new is settles h = absurd settles

  run_front : (c : Coverage) (f : Option (Finalizing B G)) (count : R → ℕ) (m : w.kind.Members) (front after : Option (Front B R U H)) (j : ℕ) (old new : List (Mark B))
      → StepsFinal w count m front j old new after → FrontAgrees w c f front → FrontAgrees w c f after
  run_front c f count m front after j old new (turned {b = b} {run = was} {turned = now} {answer = answer} live had settles) h =
      settled_run c f front after j b was now answer old new live.is settles h
  run_front c f count m front after j old new (not_live dead e is) h = subst (λ x. FrontAgrees w c f x) (sym is) h

  completes_front : (c : Coverage) (f : Option (Finalizing B G)) (count : R → ℕ) (m now : exec.Moment w) (front after : Option (Front B R U H)) (j : ℕ)
      → Completes w count m front j now after → Stays w m now × (FrontAgrees w c f front → FrontAgrees w c f after)
  completes_front c f count m now front after j (candidate steps is) = (steps_stays w count m j now steps, λ h. subst (λ x. FrontAgrees w c f x) (sym is) h)
  completes_front c f count m now front after j (finalized none steps e) =
      (record { anchor = ap (λ n. n.state.anchor) e; members = ap (λ n. n.members) e }, λ h. run_front c f count m.members front after j m.marks now.marks steps h)

  -- a job has a turn
  pub turn_sound : (counts : Counts R D H) (j : ℕ) (m now : Moment w) → TurnsJob w counts j m now → Sound w m → Sound w now
  turn_sound counts j m now (build {then = then} {after = after} live b e) s =
      let stays = builds_stays w counts.build (inner w m) m.execution.build j then after b in
      Sound-is w now _ e (turned_sound w m _ stays.anchor stays.members refl refl refl (λ u. u.front) (λ u. u.held) s)
  turn_sound counts j m now (hook {marks = marks} {after = after} other live h e) s =
      Sound-is w now _ e (turned_sound w m _ refl refl refl refl refl
      (λ u. hook_front m.loop.durability m.loop.front counts.hook m.members m.execution.front after j m.marks marks h u.front) (λ u. u.held) s)
  turn_sound counts j m now (run {then = then} {after = after} other dead c e) s =
      let (stays, front) = completes_front m.loop.durability m.loop.front counts.run (inner w m) then m.execution.front after j c in
      Sound-is w now _ e (turned_sound w m _ stays.anchor stays.members refl refl refl (λ u. front u.front) (λ u. u.held) s)

  -- a request is given up
  pub cancel_sound : (t : ℕ) (m now : Moment w) → Cancels w t m now → Sound w m → Sound w now
  cancel_sound t m now c s =
      Sound-is w now _ c.becomes (turned_sound w m _ (gives_up_anchor m.execution.state c.state m.execution.build c.build t c.marks c.gives_up) refl refl refl refl
      (λ u. u.front) (λ u. u.held) s)

  pub taken_in_sound : Laws w.kind → (stored : ℕ → Option (Named B)) (counts : Counts R D H) (m now : Moment w) (event : Event B C I)
      → TakesIn w stored counts m now event → IsUp w m → Sound w now
  taken_in_sound laws stored counts m now event (enters is e) u = queue_sound w m now _ _ e (up_sound laws m u)
  taken_in_sound laws stored counts m now event (cancels {t = t} c) u = cancel_sound t m now c (up_sound laws m u)
  taken_in_sound laws stored counts m now event (fetched {f = f} {answer = answer} {then = then} is e) u =
      Sound-is w now _ e (Sound-kept w m (with_inner w m then) (kept_inner w m then (fetched_stays w stored (inner w m) f answer then is)) (up_sound laws m u))
  taken_in_sound laws stored counts m now event (turns {j = j} t) u = turn_sound counts j m now t (up_sound laws m u)
  taken_in_sound laws stored counts m now event (flushes {k = k} {i = i} {answer = answer} f) u = flush_sound w laws k i answer m now f u
  taken_in_sound laws stored counts m now event (stops e) u = down_sound w m now (ap (λ n. n.loop.up) e) (ap (λ n. n.members) e) (up_sound laws m u)
  taken_in_sound laws stored counts m now event (progresses e) u = Sound-is w now m e (up_sound laws m u)
  taken_in_sound laws stored counts m now event (restarts e) u = Sound-is w now m e (up_sound laws m u)
