-- What goes on leaves the machine up, but for a stop and for a barrier that breaks.
use Rattle.std.proofs.Common.{◌≡◌, ◌⊎◌, ◌++◌, ◌∷◌, [], inl, inr, ℕ, false, List, Option, refl, sym, ap, ◌∙◌, true≢false}
use Rattle.stateful_base.specs.Names.{Named}
use Rattle.stateful_base.specs.declared.number.Height.{Height}
use Rattle.stateful_history.specs.declared.event.Event.{Event}
use Rattle.stateful_history.specs.declared.event.Event.TheVariants.{Stop}
use Rattle.stateful_history.specs.declared.mark.Mark.{Mark}
use Rattle.stateful_history.specs.declared.mark.Mark.TheVariants.{BarrierDone}
use Rattle.stateful_exec_model.specs.Workings.{Workings}
use Rattle.stateful_loop_laws.proofs.events.AlongUp.{rule_is_up}
use Rattle.stateful_loop_model.specs.Intake.{Counts, TakesIn, TurnsJob, enters, cancels, fetched, turns, flushes, stops, progresses, restarts, build, hook, run}
use Rattle.stateful_loop_model.specs.Moments.{Moment}
use Rattle.stateful_loop_model.specs.Rules.{Builds, starts, declines, Takes, of_action, of_message, DoesMessage, schedules, answers, acknowledges, holds, begins, Rule, Along, none, further}
use Rattle.stateful_loop_model.specs.Rules as rule
use Rattle.stateful_loop_model.specs.declared.message.Message.{Message}

module _ {B C I P R D H G U : Type 0} (w : Workings B C I P R D H G U) where
  -- the machine isn't up any more, since the last mark is that of a barrier that broke
  pub record Broke (now : Moment w) : Type 0 where
    pub down : now.loop.up ≡ false
    pub before : List (Mark B)
    pub number : ℕ
    pub height : Height
    pub marks_are : now.marks ≡ before ++ BarrierDone number height false ∷ []

  builds_up : (provider : P) (t : ℕ) (m now : Moment w) → Builds w provider t m now → now.loop.up ≡ m.loop.up
  builds_up provider t m now (starts s e) = ap (λ (n : Moment w). n.loop.up) e
  builds_up provider t m now (declines unready e) = ap (λ (n : Moment w). n.loop.up) e

  takes_up : (x : Message B C I) (m mid : Moment w) → Takes w x m mid → mid.loop.up ≡ m.loop.up
  takes_up x m mid (of_action is e) = ap (λ (n : Moment w). n.loop.up) e
  takes_up x m mid (of_message no_action is e) = ap (λ (n : Moment w). n.loop.up) e

  does_up : (stored : ℕ → Option (Named B)) (x : Message B C I) (m now : Moment w) → DoesMessage w stored m now x → now.loop.up ≡ m.loop.up
  does_up stored x m now (schedules r) = ap (λ (n : Moment w). n.loop.up) r.becomes
  does_up stored x m now (answers e) = ap (λ (n : Moment w). n.loop.up) e
  does_up stored x m now (acknowledges past durable e) = ap (λ (n : Moment w). n.loop.up) e
  does_up stored x m now (holds past later e) = ap (λ (n : Moment w). n.loop.up) e
  does_up stored x m now (begins higher r) = ap (λ (n : Moment w). n.loop.up) r.becomes

  -- a rule
  pub rule-stays : (stored : ℕ → Option (Named B)) (provider : P) (m now : Moment w) → Rule w stored provider m now
      → (now.loop.up ≡ m.loop.up) ⊎ Broke now
  rule-stays stored provider m now (rule.collects up r) = inl (ap (λ (n : Moment w). n.loop.up) r.becomes)
  rule-stays stored provider m now (rule.schedules collected alive is verifies r) = inl (ap (λ (n : Moment w). n.loop.up) r.becomes)
  rule-stays stored provider m now (rule.puts_off collected alive is other e) = inl (ap (λ (n : Moment w). n.loop.up) e)
  rule-stays stored provider m now (rule.runs fin begun awaits unknown r) = inl (ap (λ (n : Moment w). n.loop.up) r.becomes)
  rule-stays stored provider m now (rule.applies fin captured states r) = inl (ap (λ (n : Moment w). n.loop.up) r.becomes)
  rule-stays stored provider m now (rule.covers fin advanced captured needed r) = inl (ap (λ (n : Moment w). n.loop.up) r.becomes)
  rule-stays stored provider m now (rule.observes fin advanced is covered r) = inl (ap (λ (n : Moment w). n.loop.up) r.becomes)
  rule-stays stored provider m now (rule.ends fin advanced captured r) = inl (ap (λ (n : Moment w). n.loop.up) r.becomes)
  rule-stays stored provider m now (rule.breaks {active = active} idle is e) = inr (record {
    down = ap (λ (n : Moment w). n.loop.up) e;
    before = m.marks;
    number = active.number;
    height = active.height;
    marks_are = ap (λ (n : Moment w). n.marks) e;
  })
  rule-stays stored provider m now (rule.completes idle unbroken done r) = inl (ap (λ (n : Moment w). n.loop.up) r.becomes)
  rule-stays stored provider m now (rule.begins idle unbroken undone needed r) = inl (ap (λ (n : Moment w). n.loop.up) r.becomes)
  rule-stays stored provider m now (rule.builds calm is r) = inl (builds_up provider _ _ now r)
  rule-stays stored provider m now (rule.takes {x = x} {mid = mid} calm take does) =
      inl (does_up stored x mid now does ∙ takes_up x m mid take)

  -- rules, one after another
  pub along-stays : (stored : ℕ → Option (Named B)) (provider : P) (m now : Moment w) → Along w stored provider m now
      → (now.loop.up ≡ m.loop.up) ⊎ Broke now
  along-stays stored provider m _ none = inl refl
  along-stays stored provider m now (further {mid = mid} along one) =
      go (along-stays stored provider m mid along) (rule-stays stored provider mid now one)
    where
      go : (mid.loop.up ≡ m.loop.up) ⊎ Broke mid → (now.loop.up ≡ mid.loop.up) ⊎ Broke now → (now.loop.up ≡ m.loop.up) ⊎ Broke now
      go (inl same) (inl then) = inl (then ∙ same)
      go (inl same) (inr broke) = inr broke
      go (inr broke) then = absurd (true≢false (sym (rule_is_up w stored provider mid now one) ∙ broke.down))

  turns_up : (counts : Counts R D H) (j : ℕ) (m now : Moment w) → TurnsJob w counts j m now → now.loop.up ≡ m.loop.up
  turns_up counts j m now (build builds r e) = ap (λ (n : Moment w). n.loop.up) e
  turns_up counts j m now (hook not_built hooks r e) = ap (λ (n : Moment w). n.loop.up) e
  turns_up counts j m now (run not_built not_hooked r e) = ap (λ (n : Moment w). n.loop.up) e

  -- and an event that is taken in
  pub takes_in-stays : (stored : ℕ → Option (Named B)) (counts : Counts R D H) (m now : Moment w) (event : Event B C I)
      → TakesIn w stored counts m now event → (now.loop.up ≡ m.loop.up) ⊎ (event ≡ Stop)
  takes_in-stays stored counts m now event (enters x e) = inl (ap (λ (n : Moment w). n.loop.up) e)
  takes_in-stays stored counts m now event (cancels r) = inl (ap (λ (n : Moment w). n.loop.up) r.becomes)
  takes_in-stays stored counts m now event (fetched r e) = inl (ap (λ (n : Moment w). n.loop.up) e)
  takes_in-stays stored counts m now event (turns {j = j} r) = inl (turns_up counts j m now r)
  takes_in-stays stored counts m now event (flushes r) = inl (ap (λ (n : Moment w). n.loop.up) r.becomes)
  takes_in-stays stored counts m now event (stops e) = inr refl
  takes_in-stays stored counts m now event (progresses e) = inl (ap (λ (n : Moment w). n.loop.up) e)
  takes_in-stays stored counts m now event (restarts e) = inl (ap (λ (n : Moment w). n.loop.up) e)
