-- After an opening nothing can go on without another event.
use Rattle.std.proofs.Common.{◌≡◌, ◌<◌, ℕ, [], List, Option, Some, None, IsSome, inl, inr, sym, ap, ◌∙◌, subst, arith}
use Rattle.std.proofs.lemmas.Bool.{false≢true}
use Rattle.stateful_base.specs.Names.{Named}
use Rattle.stateful_base.specs.declared.floor.Floor.{Floor}
use Rattle.stateful_durability.specs.Durability.{Coverage, covered_by_barriers}
use Rattle.stateful_exec_model.specs.Workings.{Workings}
use Rattle.stateful_exec_model.specs.declared.building.Building.{Building}
use Rattle.stateful_loop_laws.specs.Down.{IsEmpty}
use Rattle.stateful_loop_model.specs.Barriers.{broken, flushed}
use Rattle.stateful_loop_model.specs.Moments.{Moment}
use Rattle.stateful_loop_model.specs.Opening.{Opens}
use Rattle.stateful_loop_model.specs.Rules.{IsFinalizing, Quiet, collect, drain, run_or_apply, apply, go_on, break_or_complete, begin, take}
use Rattle.stateful_loop_model.specs.declared.barriers.Active.{Active}
use Rattle.stateful_loop_model.specs.declared.tables.Finalizing.{Finalizing}

module _ {B C I P R D H G U : Type 0} (w : Workings B C I P R D H G U) (stored_now : ℕ → Option (Named B)) (floor : Floor) (keep : List ℕ)
    (m now : Moment w) (empty : IsEmpty w m) (o : Opens w stored_now floor keep m now) where
  none_front : (f : Finalizing B G) → IsFinalizing w now f → ⊥
  none_front f fin =
      let front : now.loop.front ≡ None = ap (λ l. l.front) o.loop ∙ empty.front.0 in
      let no : Some f ≡ None = sym fin.2 ∙ front in
      cc

  none_open : now.loop.barriers ≡ []
  none_open = ap (λ l. l.barriers) o.loop ∙ empty.barriers

  -- where nothing went on before
  pub opens-quiet : Quiet w now
  opens-quiet (collect up some) = some o.requests.2
  opens-quiet (drain collected build left) =
      absurd (false≢true (subst (λ (b : Option (Building B C D)). IsSome b) o.nothing.0 build))
  opens-quiet (run_or_apply {f = f} fin begun awaits) = none_front f fin
  opens-quiet (apply {f = f} fin ran) = none_front f fin
  opens-quiet (go_on {f = f} fin advanced) = none_front f fin
  opens-quiet (break_or_complete idle (inl some)) = some (ap (λ (bs : List Active). broken bs) none_open)
  opens-quiet (break_or_complete idle (inr some)) = some (ap (λ (bs : List Active). flushed bs) none_open)
  opens-quiet (begin idle needed) =
      let low = subst (λ (c : Coverage). covered_by_barriers c < c.applied) (ap (λ l. l.durability) o.loop) needed.1 in
      absurd (omega (arith, low))
  opens-quiet (take idle (inl some)) = some (ap (λ l. l.actions) o.loop ∙ empty.actions)
  opens-quiet (take idle (inr some)) = some (ap (λ l. l.queue) o.loop ∙ empty.queue)
