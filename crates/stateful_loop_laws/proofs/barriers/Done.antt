-- The open barriers stand after the end of the oldest, which was flushed.
use Rattle.std.proofs.Common.{◌≡◌, ◌≤◌, ◌<◌, ◌-◌, ◌+◌, ◌∷◌, ◌==◌, not, ⊎_elim, ◌⊎◌, inl, inr, ℕ, zero, suc, true, List, [], length, Option, Some, None, refl, sym, ap, ◌∙◌, arith}
use Rattle.std.specs.Prelude.{All, Any, slice_get}
use Rattle.std.specs.List.{list_all}
use Rattle.std.proofs.lemmas.Bool.{and_parts, and_from, not-true, not_from_false, eqb-false, ne_eqb, cases_eq, false≢true}
use Rattle.std.proofs.lemmas.List.Elements.{All-head, All-tail}
use Rattle.stateful_base.specs.Names.{Header}
use Rattle.stateful_base.specs.declared.anchor.Anchor.{Anchor}
use Rattle.stateful_db.specs.Databases.{Databases}
use Rattle.stateful_db.specs.declared.barrier.Flushed.{Flushed}
use Rattle.stateful_db.specs.declared.barrier.Flushed.TheVariants.{Good, Interrupted}
use Rattle.stateful_db.specs.declared.barrier.Handle.{Handle}
use Rattle.stateful_history.specs.Barriers.{live_barrier, BeganSince, BeganBefore, WasDone, BarrierIsOver, GoodIsInOrder}
use Rattle.stateful_history.specs.Durable.{GoodIsFlushed, WasFlushed}
use Rattle.stateful_history.specs.Past.{Past, Made}
use Rattle.stateful_history.specs.declared.mark.Mark.TheVariants.{BarrierDone}
use Rattle.stateful_loop_laws.specs.OpenBarriers.{ActiveStands, BarriersStand}
use Rattle.stateful_loop_model.specs.Barriers.{is_good, is_flushed}
use Rattle.stateful_loop_model.specs.declared.barriers.Active.{Active}

good_is : (answer : Option Flushed) → is_good answer ≡ true → answer ≡ Some Good
good_is None e = absurd (false≢true e)
good_is (Some Good) e = refl
good_is (Some Interrupted) e = absurd (false≢true e)

-- the handle of each database is there, with a good answer
good_at : (hs : List Handle) (i : ℕ) → i < length hs → list_all (λ (h : Handle). is_good h.answer) hs ≡ true
    → (h : Handle) × (slice_get hs i ≡ Some h) × (h.answer ≡ Some Good)
good_at [] i l all = absurd (omega arith)
good_at (h ∷ hs) zero l all = (h, refl, good_is h.answer (and_parts (is_good h.answer) (list_all (λ (x : Handle). is_good x.answer) hs) all).0)
good_at (h ∷ hs) (suc i) l all = good_at hs i (omega arith) (and_parts (is_good h.answer) (list_all (λ (x : Handle). is_good x.answer) hs) all).1

module _ {B C I Ids S T : Type 0} (d : Databases Ids S T) (header : Header B) (p : Past B C I) (m : d.Members) (first : Anchor) (origin : ℕ → ℕ) where
  -- of a barrier that was flushed each database has a good answer, and is durable so far
  pub flushed_at : (a : Active) → ActiveStands d header p m first origin a → length a.barrier ≡ d.count → is_flushed a ≡ true → (i : ℕ) → i < d.count
      → WasFlushed a.number i p × (origin i + (a.height.0 - first.height.0) ≤ d.durable m i)
  flushed_at a s count good i l =
      let (h, there, is) = good_at a.barrier i (omega (arith, count, l)) good in
      (s.handles i h l there).flushed is

  module _ (oldest : Active) (more : List Active) (next : ℕ) (h : BarriersStand d header p m first origin (oldest ∷ more) next) where
    stands : ActiveStands d header p m first origin oldest
    stands = All-head (ActiveStands d header p m first origin) oldest more h.each

    -- the others have greater numbers
    greater : All (λ (a : Active). oldest.number < a.number) more
    greater k x l = h.ascending 0 (suc k) x (omega arith) (omega (arith, l))

    -- a live one is the oldest, or another one, which began later
    live_later : (k : ℕ) → live_barrier k p ≡ true → (k ≡ oldest.number) ⊎ Any (λ (a : Active). a.number ≡ k) more
    live_later k live = at (h.complete k live)
      where
        at : Any (λ (a : Active). a.number ≡ k) (oldest ∷ more) → (k ≡ oldest.number) ⊎ Any (λ (a : Active). a.number ≡ k) more
        at (zero, x, l, is, e) = inl (sym e ∙ ap (λ (a : Active). a.number) (sym is))
        at (suc j, x, l, is, e) = inr (j, x, omega (arith, l), is, e)

    -- what began before the oldest was done
    pub done_before : (n : ℕ) → BeganBefore n oldest.number p → WasDone n p
    done_before n before = ⊎_elim (λ w. w) (λ l. absurd (late (live_later n l))) (h.done n low.0)
      where
        low : BeganSince n p × (n < oldest.number)
        low = h.later n oldest.number stands.since before

        late : (n ≡ oldest.number) ⊎ Any (λ (a : Active). a.number ≡ n) more → ⊥
        late (inl e) = let lt = low.1 in omega (arith, e, lt)
        late (inr (j, x, l, is, e)) = let above = greater j x l in let lt = low.1 in let at = ap (λ (a : Active). a.number) is in
            omega (arith, above, at, e, lt)

    -- the rules on the mark that the oldest is done, where it was flushed
    pub done_over : BarrierIsOver header p (BarrierDone oldest.number oldest.height true)
    done_over = (stands.live, stands.over, λ broken. absurd (false≢true (sym broken)))

    -- each database was flushed for it
    pub done_flushed : length oldest.barrier ≡ d.count → is_flushed oldest ≡ true
        → GoodIsFlushed header d.count p (BarrierDone oldest.number oldest.height true)
    done_flushed count good = (stands.began, λ i l. (flushed_at oldest stands count good i l).0)

    -- each that began before it was done
    pub done_in_order : GoodIsInOrder p (BarrierDone oldest.number oldest.height true)
    done_in_order = done_before

    abbrev q : Past B C I
    q = Made (BarrierDone oldest.number oldest.height true) ∷ p

    still : (k : ℕ) → (k ≡ oldest.number → ⊥) → live_barrier k p ≡ true → live_barrier k q ≡ true
    still k ne live = and_from (not (k == oldest.number)) (live_barrier k p) (not_from_false (k == oldest.number) (ne_eqb k oldest.number ne)) live

    ActiveStands-newer : (a : Active) → oldest.number < a.number → ActiveStands d header p m first origin a → ActiveStands d header q m first origin a
    ActiveStands-newer a above s = record {
      live = still a.number (λ e. omega (arith, e, above)) s.live;
      over = s.over;
      began = s.began;
      since = s.since;
      handles = λ i handle l is. let old = s.handles i handle l is in
          record { place = old.place; flushed = old.flushed; interrupted = old.interrupted };
    }

    -- the others stand behind it
    pub BarriersStand-done : BarriersStand d header q m first origin more next
    BarriersStand-done = record {
      each = λ k x l. ActiveStands-newer _ (greater k x l) (All-tail (ActiveStands d header p m first origin) oldest more h.each k x l);
      ascending = λ i j x lt l. h.ascending (suc i) (suc j) x (omega (arith, lt)) (omega (arith, l));
      complete = complete;
      done = λ k since. ⊎_elim (λ w. inl (inr w)) (λ l. ⊎_elim (λ e. inl (inl e)) (λ ne. inr (still k ne l)) (cases_eq k oldest.number))
          (h.done k since);
      later = h.later;
      numbers = h.numbers;
    }
      where
        complete : (k : ℕ) → live_barrier k q ≡ true → Any (λ (a : Active). a.number ≡ k) more
        complete k live =
            let both = and_parts (not (k == oldest.number)) (live_barrier k p) live in
            let ne = eqb-false k oldest.number (not-true (k == oldest.number) both.0) in
            ⊎_elim (λ e. absurd (ne e)) (λ there. there) (live_later k both.1)
