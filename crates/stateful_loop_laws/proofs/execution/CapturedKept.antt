-- Each rule of the loop, each event and each opening leaves what was captured for the block in front as it was read for it.
use Rattle.std.proofs.Common.{◌≡◌, ◌∷◌, ℕ, List, Option, Some, None, sym, ap, ◌∙◌, subst}
use Rattle.stateful_base.specs.Names.{Named}
use Rattle.stateful_base.specs.declared.floor.Floor.{Floor}
use Rattle.stateful_history.specs.declared.event.Event.{Event}
use Rattle.stateful_exec_model.specs.Workings.{Workings, Point}
use Rattle.stateful_loop_model.specs.Intake.{Counts, TakesIn, enters, cancels, fetched, turns, flushes, stops, progresses, restarts, TurnsJob, build, hook, run}
use Rattle.stateful_loop_model.specs.Moments.{Moment}
use Rattle.stateful_loop_model.specs.Opening.{Opens}
use Rattle.stateful_loop_model.specs.Rules.{starts, declines, AppliesBlock, DoesMessage, schedules, answers, acknowledges, holds, begins, Takes, of_action, of_message, Rule, collects, puts_off, runs, applies, covers, observes, ends, breaks, completes, builds, takes}
use Rattle.stateful_loop_model.specs.declared.message.Message.{Message}
use Rattle.stateful_loop_model.specs.declared.tables.Finalizing.{Finalizing}
use Rattle.stateful_loop_model.specs.declared.tables.Processing.{Processing}
use Rattle.stateful_loop_laws.specs.Stands.{IsCaptured, CapturedStands}

module _ {B C I P R D H G U : Type 0} (w : Workings B C I P R D H G U) where
  abbrev Stand : Moment w → Type 0
  Stand m = CapturedStands w m.loop.front

  same : (m now : Moment w) → now.loop ≡ m.loop → Stand m → Stand now
  same m now is s = subst (λ (l : Processing B C I G). CapturedStands w l.front) (sym is) s

  front_same : (m now : Moment w) → now.loop.front ≡ m.loop.front → Stand m → Stand now
  front_same m now is s = subst (λ (f : Option (Finalizing B G)). CapturedStands w f) (sym is) s

  -- where a block is applied, what is captured is read of the states that the databases hold before it
  applies_block : (f : Finalizing B G) (m now : Moment w) (point : Point w) → w.kind.point m.members ≡ Some point → AppliesBlock w f m now → Stand now
  applies_block f m now point here r =
      subst (λ (n : Moment w). Stand n) (sym r.becomes) (record { before = point.1; read = r.moves.captures point here })

  does : (stored : ℕ → Option (Named B)) (x : Message B C I) (m now : Moment w) → DoesMessage w stored m now x → Stand m → Stand now
  does stored x m now (schedules r) s = front_same m now (ap (λ n. n.loop.front) r.becomes) s
  does stored x m now (answers e) s = front_same m now (ap (λ n. n.loop.front) e) s
  does stored x m now (acknowledges old durable e) s = front_same m now (ap (λ n. n.loop.front) e) s
  does stored x m now (holds old above e) s = front_same m now (ap (λ n. n.loop.front) e) s
  does stored x m now (begins above r) s = subst (λ (n : Moment w). Stand n) (sym r.becomes) tt

  taken : (x : Message B C I) (m mid : Moment w) → Takes w x m mid → mid.loop.front ≡ m.loop.front
  taken x m mid (of_action is e) = ap (λ n. n.loop.front) e
  taken x m mid (of_message none is e) = ap (λ n. n.loop.front) e

  -- a rule goes, where the databases are at some point
  pub rule-captured : (stored : ℕ → Option (Named B)) (provider : P) (m now : Moment w) (point : Point w) → w.kind.point m.members ≡ Some point
      → Rule w stored provider m now → CapturedStands w m.loop.front → CapturedStands w now.loop.front
  rule-captured stored provider m now point here (collects up r) s = front_same m now (ap (λ n. n.loop.front) r.becomes) s
  rule-captured stored provider m now point here (Rule.schedules calm building is verifies r) s = front_same m now (ap (λ n. n.loop.front) r.becomes) s
  rule-captured stored provider m now point here (puts_off calm building is other e) s = front_same m now (ap (λ n. n.loop.front) e) s
  rule-captured stored provider m now point here (runs fin begun awaits unknown r) s = front_same m now (ap (λ n. n.loop.front) r.becomes) s
  rule-captured stored provider m now point here (applies {f = f} fin captured states r) s = applies_block f m now point here r
  rule-captured stored provider m now point here (covers fin advanced captured needed r) s = front_same m now (ap (λ n. n.loop.front) r.becomes) s
  rule-captured stored provider m now point here (observes fin advanced is covered r) s = subst (λ (n : Moment w). Stand n) (sym r.becomes) tt
  rule-captured stored provider m now point here (ends fin advanced captured r) s = subst (λ (n : Moment w). Stand n) (sym r.becomes) tt
  rule-captured stored provider m now point here (breaks idle is e) s = front_same m now (ap (λ n. n.loop.front) e) s
  rule-captured stored provider m now point here (completes idle unbroken done r) s = front_same m now (ap (λ n. n.loop.front) r.becomes) s
  rule-captured stored provider m now point here (Rule.begins idle unbroken undone needed r) s = front_same m now (ap (λ n. n.loop.front) r.becomes) s
  rule-captured stored provider m now point here (builds calm is (starts b e)) s = front_same m now (ap (λ n. n.loop.front) e) s
  rule-captured stored provider m now point here (builds calm is (declines none e)) s = front_same m now (ap (λ n. n.loop.front) e) s
  rule-captured stored provider m now point here (takes {x = x} {mid = mid} calm take r) s = does stored x mid now r (front_same m mid (taken x m mid take) s)

  turned : (counts : Counts R D H) (j : ℕ) (m now : Moment w) → TurnsJob w counts j m now → now.loop.front ≡ m.loop.front
  turned counts j m now (build live turns_it e) = ap (λ n. n.loop.front) e
  turned counts j m now (hook unbuilt live turns_it e) = ap (λ n. n.loop.front) e
  turned counts j m now (run unbuilt unhooked turns_it e) = ap (λ n. n.loop.front) e

  -- an event is taken in
  pub taken_in-captured : (stored : ℕ → Option (Named B)) (counts : Counts R D H) (e : Event B C I) (m now : Moment w) → TakesIn w stored counts m now e
      → CapturedStands w m.loop.front → CapturedStands w now.loop.front
  taken_in-captured stored counts e m now (enters message is) s = front_same m now (ap (λ n. n.loop.front) is) s
  taken_in-captured stored counts e m now (cancels c) s = front_same m now (ap (λ n. n.loop.front) c.becomes) s
  taken_in-captured stored counts e m now (fetched f is) s = front_same m now (ap (λ n. n.loop.front) is) s
  taken_in-captured stored counts e m now (turns {j = j} t) s = front_same m now (turned counts j m now t) s
  taken_in-captured stored counts e m now (flushes f) s = front_same m now (ap (λ n. n.loop.front) f.becomes) s
  taken_in-captured stored counts e m now (stops is) s = front_same m now (ap (λ n. n.loop.front) is) s
  taken_in-captured stored counts e m now (progresses is) s = front_same m now (ap (λ n. n.loop.front) is) s
  taken_in-captured stored counts e m now (restarts is) s = front_same m now (ap (λ n. n.loop.front) is) s

  -- the databases are opened while nothing goes on
  pub opens-captured : (stored : ℕ → Option (Named B)) (floor : Floor) (keep : List ℕ) (m now : Moment w) → m.loop.front ≡ None
      → Opens w stored floor keep m now → CapturedStands w now.loop.front
  opens-captured stored floor keep m now none o =
      subst (λ (f : Option (Finalizing B G)). CapturedStands w f) (sym (ap (λ l. l.front) o.loop ∙ none)) tt
