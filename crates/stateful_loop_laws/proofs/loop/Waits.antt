-- Where no barrier has to begin, to break or to complete, what isn't durable waits for a live flush.
use Rattle.std.proofs.Common.{◌≡◌, ◌<◌, ◌∷◌, ⊎_elim, ℕ, suc, Bool, true, false, List, [], map, Option, Some, None, cond, filter, refl, sym, ap, ◌∙◌, subst, arith, eqb}
use Rattle.std.specs.Prelude.{is_some, Any}
use Rattle.std.specs.List.{list_all, list_any}
use Rattle.std.proofs.lemmas.Bool.{and_from, and_cases, or_parts, eq-eqb, false≢true, false_from_ne_true}
use Rattle.stateful_base.specs.Names.{Named}
use Rattle.stateful_db.specs.Barrier.{open_at, still_open}
use Rattle.stateful_db.specs.declared.barrier.Flushed.{Flushed}
use Rattle.stateful_db.specs.declared.barrier.Flushed.TheVariants.{Good, Interrupted}
use Rattle.stateful_db.specs.declared.barrier.Handle.{Handle}
use Rattle.stateful_db.specs.declared.database.FlushToken.{FlushToken}
use Rattle.stateful_history.specs.Barriers.{HasOutstandingBarrier, live_barrier}
use Rattle.stateful_history.specs.Past.{Past}
use Rattle.stateful_exec_model.specs.Workings.{Workings}
use Rattle.stateful_loop_laws.specs.Stands.{LoopStands}
use Rattle.stateful_loop_laws.proofs.barriers.Down.{NoneLive}
use Rattle.stateful_loop_laws.proofs.barriers.AwaitedItems.{awaited_first}
use Rattle.stateful_loop_model.specs.Barriers.{awaiting, first_of, is_good, is_interrupted, is_broken, is_flushed, broken, flushed}
use Rattle.stateful_loop_model.specs.Moments.{Moment}
use Rattle.stateful_loop_model.specs.Rules.{Needed}
use Rattle.stateful_loop_model.specs.Sound.{IsUp}
use Rattle.stateful_loop_model.specs.declared.barriers.Active.{Active}

unanswered : (token : FlushToken) (answer : Option Flushed) → is_good answer ≡ false → is_interrupted answer ≡ false
    → is_some (still_open (record { token = token; answer = answer })) ≡ true
unanswered token None good broken = refl
unanswered token (Some Good) good broken = absurd (false≢true (sym good))
unanswered token (Some Interrupted) good broken = absurd (false≢true (sym broken))

-- a barrier that is neither flushed nor broken awaits an answer
awaits_some : (hs : List Handle) → list_all (λ (h : Handle). is_good h.answer) hs ≡ false
    → list_any (λ (h : Handle). is_interrupted h.answer) hs ≡ false → (i : ℕ) × (is_some (open_at hs i) ≡ true)
awaits_some [] all any = absurd (false≢true (sym all))
awaits_some (h ∷ hs) all any =
    let none = or_parts (is_interrupted h.answer) (list_any (λ (x : Handle). is_interrupted x.answer) hs) any in
    ⊎_elim
    (λ own. (0, unanswered h.token h.answer own none.0))
    (λ others. let r = awaits_some hs others none.1 in (suc r.0, r.1))
    (and_cases (is_good h.answer) (list_all (λ (x : Handle). is_good x.answer) hs) all)

unflushed : (a : Active) (more : List Active) → flushed (a ∷ more) ≡ None → is_flushed a ≡ false
unflushed a more none = by (is_flushed a) refl none
  where
    by : (t : Bool) → is_flushed a ≡ t → cond t (Some a) None ≡ None → is_flushed a ≡ false
    by true is e = absurd (cc)
    by false is e = is

unbroken : (a : Active) (more : List Active) → broken (a ∷ more) ≡ None → is_broken a ≡ false
unbroken a more none = by (is_broken a) refl none
  where
    by : (t : Bool) → is_broken a ≡ t → first_of (cond t (a ∷ filter is_broken more) (filter is_broken more)) ≡ None → is_broken a ≡ false
    by true is e = absurd (cc)
    by false is e = is

module _ {B C I P R D H G U : Type 0} (w : Workings B C I P R D H G U) (stored : ℕ → Option (Named B)) (base : w.States) (p : Past B C I)
    (m : Moment w) (h : LoopStands w stored base p m) where
  -- the oldest barrier has a live flush
  outstanding : (a : Active) (more : List Active) → m.loop.barriers ≡ a ∷ more → flushed m.loop.barriers ≡ None → broken m.loop.barriers ≡ None
      → HasOutstandingBarrier w.kind.count p
  outstanding a more is whole sound =
      let r = awaits_some a.barrier
      (unflushed a more (subst (λ xs. flushed xs ≡ None) is whole)) (unbroken a more (subst (λ xs. broken xs ≡ None) is sound)) in (
        a.number,
        r.0,
        h.lives a.number r.0 (subst (λ xs. is_some (awaiting a.number r.0 xs) ≡ true) (sym is)
            (awaited_first a.number r.0 a more
            (and_from (eqb a.number a.number) (is_some (open_at a.barrier r.0)) (eq-eqb a.number a.number refl) r.1))),
      )

  -- something applied isn't durable
  pub outstanding_undurable : IsUp w m → (Needed m.loop.durability → ⊥) → flushed m.loop.barriers ≡ None → broken m.loop.barriers ≡ None
      → m.loop.durability.durable < m.loop.durability.applied → HasOutstandingBarrier w.kind.count p
  outstanding_undurable u covered whole sound behind = by m.loop.barriers refl
    where
      by : (xs : List Active) → m.loop.barriers ≡ xs → HasOutstandingBarrier w.kind.count p
      by [] is =
          let none : m.loop.durability.barriers ≡ [] = sym u.heights ∙ ap (map (λ (a : Active). a.height.0)) is in
          absurd (covered (rw none (omega arith, behind)))
      by (a ∷ more) is = outstanding a more is whole sound

  -- where no barrier is open, none is live
  pub NoneLive-none : m.loop.barriers ≡ [] → NoneLive p m.loop.next_barrier
  NoneLive-none none = record { dead = λ k. false_from_ne_true (live_barrier k p) (λ live. nothing k live); below = h.barriers.numbers }
    where
      nothing : (k : ℕ) → live_barrier k p ≡ true → ⊥
      nothing k live =
          let (j, a, l, is, e) = subst (λ xs. Any (λ (a : Active). a.number ≡ k) xs) none (h.barriers.complete k live) in
          omega (arith, l)
