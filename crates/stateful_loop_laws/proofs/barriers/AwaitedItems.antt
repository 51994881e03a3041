-- Live flushes are awaited, behind each item.
use Rattle.std.proofs.Common.{◌≡◌, ◌<◌, ◌∷◌, ◌++◌, ◌==◌, ◌&&◌, not, nat_lt, ⊎_elim, ◌⊎◌, inl, inr, ℕ, zero, suc, Bool, true, false, List, [], Some, IsSome, refl, sym, ap, ◌∙◌, eqb}
use Rattle.std.specs.Prelude.{is_some}
use Rattle.std.proofs.lemmas.Bool.{and_parts, and_from, or_cases, or_left, or_right, not-true, eqb-true, eqb-false, eq-eqb, ltb-true, cases_Bool, false≢true}
use Rattle.stateful_db.specs.Barrier.{open_at, answered}
use Rattle.stateful_db.specs.declared.barrier.Flushed.{Flushed as Answer}
use Rattle.stateful_db.specs.declared.barrier.Handle.{Handle}
use Rattle.stateful_db.specs.declared.database.FlushToken.{FlushToken}
use Rattle.stateful_base.specs.declared.number.Height.{Height}
use Rattle.stateful_history.specs.Barriers.{live_barrier}
use Rattle.stateful_history.specs.Live.{live_flush}
use Rattle.stateful_history.specs.Past.{Past, Item, Came, Made}
use Rattle.stateful_history.specs.declared.event.Event.TheVariants.{Flushed, Restart}
use Rattle.stateful_history.specs.declared.mark.Mark.TheVariants.{Applied, BarrierBegun, BarrierDone, Stopped}
use Rattle.stateful_loop_laws.specs.OpenBarriers.{AwaitsEach}
use Rattle.stateful_loop_laws.proofs.loop.CalmItems.{IsCalmItem}
use Rattle.stateful_loop_model.proofs.OutTokens.{awaiting_first, awaiting_behind}
use Rattle.stateful_loop_model.specs.Barriers.{awaits, awaiting, answered_by, with_answer}
use Rattle.stateful_loop_model.specs.declared.barriers.Active.{Active}

-- one of the barriers awaits the answer, the first or another
pub awaited_first : (k i : ℕ) (b : Active) (bs : List Active) → awaits k i b ≡ true → IsSome (awaiting k i (b ∷ bs))
awaited_first k i b bs w = rw (awaiting_first k i b bs w) refl

-- or a later one
pub awaited_behind : (k i : ℕ) (b : Active) (bs : List Active) → IsSome (awaiting k i bs) → IsSome (awaiting k i (b ∷ bs))
awaited_behind k i b bs some = ⊎_elim (λ w. awaited_first k i b bs w) (λ w. rw (awaiting_behind k i b bs w) some) (cases_Bool (awaits k i b))

-- what is awaited is awaited by the first or by a later one
pub awaited_at : (k i : ℕ) (b : Active) (bs : List Active) → IsSome (awaiting k i (b ∷ bs)) → (awaits k i b ≡ true) ⊎ IsSome (awaiting k i bs)
awaited_at k i b bs some = ⊎_elim (λ w. inl w) (λ w. inr (rw (awaiting_behind k i b bs w) at some)) (cases_Bool (awaits k i b))

awaited_left : (k i : ℕ) (xs ys : List Active) → IsSome (awaiting k i xs) → IsSome (awaiting k i (xs ++ ys))
awaited_left k i [] ys some = absurd (false≢true some)
awaited_left k i (x ∷ xs) ys some = ⊎_elim
    (λ w. awaited_first k i x (xs ++ ys) w)
    (λ rest. awaited_behind k i x (xs ++ ys) (awaited_left k i xs ys rest))
    (awaited_at k i x xs some)

awaited_right : (k i : ℕ) (xs ys : List Active) → IsSome (awaiting k i ys) → IsSome (awaiting k i (xs ++ ys))
awaited_right k i [] ys some = some
awaited_right k i (x ∷ xs) ys some = awaited_behind k i x (xs ++ ys) (awaited_right k i xs ys some)

-- the answer of another database or to another barrier is awaited still
pub open_other : (answer : Answer) (hs : List Handle) (n i : ℕ) → (i ≡ n → ⊥) → open_at (answered hs n answer) i ≡ open_at hs i
open_other answer [] n i ne = refl
open_other answer (h ∷ hs) zero zero ne = absurd (ne refl)
open_other answer (h ∷ hs) zero (suc i) ne = refl
open_other answer (h ∷ hs) (suc n) zero ne = refl
open_other answer (h ∷ hs) (suc n) (suc i) ne = open_other answer hs n i (λ e. ne (ap suc e))

awaited_still : (m n : ℕ) (answer : Answer) (k i : ℕ) → ((k ≡ m) × (i ≡ n) → ⊥) → (barriers : List Active) → IsSome (awaiting k i barriers)
    → IsSome (awaiting k i (with_answer m n answer barriers))
awaited_still m n answer k i other [] some = some
awaited_still m n answer k i other (b ∷ bs) some = by (awaits m n b) refl (λ rest. awaited_still m n answer k i other bs rest)
  where
    own : awaits m n b ≡ true → awaits k i b ≡ true → awaits k i (answered_by n answer b) ≡ true
    own w v =
        let own = and_parts (eqb b.number m) (is_some (open_at b.barrier n)) w in
        let its = and_parts (eqb b.number k) (is_some (open_at b.barrier i)) v in
        let ne : i ≡ n → ⊥ = λ e. other (sym (eqb-true b.number k its.0) ∙ eqb-true b.number m own.0, e) in
        and_from (eqb b.number k) (is_some (open_at (answered b.barrier n answer) i)) its.0 (ap is_some (open_other answer b.barrier n i ne) ∙ its.1)

    by : (t : Bool) → awaits m n b ≡ t → (IsSome (awaiting k i bs) → IsSome (awaiting k i (with_answer m n answer bs)))
        → IsSome (awaiting k i (with_answer m n answer (b ∷ bs)))
    by true w rest = rw w (⊎_elim
        (λ v. awaited_first k i (answered_by n answer b) bs (own w v))
        (λ later. awaited_behind k i (answered_by n answer b) bs later)
        (awaited_at k i b bs some))
    by false w rest = rw w (⊎_elim
        (λ v. awaited_first k i b (with_answer m n answer bs) v)
        (λ later. awaited_behind k i b (with_answer m n answer bs) (rest later))
        (awaited_at k i b bs some))

module _ {B C I : Type 0} (count : ℕ) where
  -- a live flush is that of a live barrier
  pub live_flush_barrier : (k i : ℕ) (p : Past B C I) → live_flush count k i p ≡ true → live_barrier k p ≡ true
  live_flush_barrier k i [] live = live
  live_flush_barrier k i (Came (Restart floor keep) ∷ p) live = live
  live_flush_barrier k i (Made Stopped ∷ p) live = live
  live_flush_barrier k i (Came (Flushed m n answer) ∷ p) live = live_flush_barrier k i p
      (and_parts (not ((k == m) && (i == n))) (live_flush count k i p) live).1
  live_flush_barrier k i (Made (BarrierBegun m height) ∷ p) live = ⊎_elim
      (λ new. or_left (k == m) (live_barrier k p) (and_parts (k == m) (nat_lt i count) new).0)
      (λ old. or_right (k == m) (live_barrier k p) (live_flush_barrier k i p old))
      (or_cases ((k == m) && nat_lt i count) (live_flush count k i p) live)
  live_flush_barrier k i (Made (BarrierDone m height good) ∷ p) live =
      let both = and_parts (not (k == m)) (live_flush count k i p) live in
      and_from (not (k == m)) (live_barrier k p) both.0 (live_flush_barrier k i p both.1)
  live_flush_barrier k i (item ∷ p) live = live_flush_barrier k i p live

  module _ (p : Past B C I) (barriers : List Active) (h : AwaitsEach count p barriers) where
    -- behind calm items, and after an applied block
    pub AwaitsEach-calm : (x : Item B C I) → IsCalmItem x → AwaitsEach count (x ∷ p) barriers
    AwaitsEach-calm (Came (Restart floor keep)) calm = absurd calm
    AwaitsEach-calm (Came (Flushed k i answer)) calm = absurd calm
    AwaitsEach-calm (Made (BarrierBegun k height)) calm = absurd calm
    AwaitsEach-calm (Made (BarrierDone k height good)) calm = absurd calm
    AwaitsEach-calm (Made Stopped) calm = absurd calm
    AwaitsEach-calm x calm = h

    -- an apply answers nothing
    pub AwaitsEach-applied : (b : _) → AwaitsEach count (Made (Applied b) ∷ p) barriers
    AwaitsEach-applied b = h

    -- behind an answer
    pub AwaitsEach-flushed : (m n : ℕ) (answer : Answer) → AwaitsEach count (Came (Flushed m n answer) ∷ p) (with_answer m n answer barriers)
    AwaitsEach-flushed m n answer k i live =
        let both = and_parts (not ((k == m) && (i == n))) (live_flush count k i p) live in
        awaited_still m n answer k i
        (λ same. let one = and_from (k == m) (i == n) (eq-eqb k m same.0) (eq-eqb i n same.1) in let other = not-true ((k == m) && (i == n)) both.0 in
        false≢true (sym other ∙ one))
        barriers (h k i both.1)

    -- behind the begin of a barrier with the tokens of all databases
    pub AwaitsEach-begun : (new : Active) → ((i : ℕ) → i < count → (token : FlushToken) × (open_at new.barrier i ≡ Some token))
        → AwaitsEach count (Made (BarrierBegun new.number new.height) ∷ p) (barriers ++ new ∷ [])
    AwaitsEach-begun new tokens k i live = ⊎_elim
        (λ own. awaited_right k i barriers (new ∷ []) (awaited_first k i new [] (opened own)))
        (λ old. awaited_left k i barriers (new ∷ []) (h k i old))
        (or_cases ((k == new.number) && nat_lt i count) (live_flush count k i p) live)
      where
        opened : ((k == new.number) && nat_lt i count) ≡ true → awaits k i new ≡ true
        opened own =
            let both = and_parts (k == new.number) (nat_lt i count) own in
            let t = tokens i (ltb-true i count both.1) in
            and_from (eqb new.number k) (is_some (open_at new.barrier i)) (eq-eqb new.number k (sym (eqb-true k new.number both.0))) (ap is_some t.1)

  -- after the end of the oldest
  pub AwaitsEach-done : (p : Past B C I) (oldest : Active) (more : List Active) (height : Height) (good : Bool) → AwaitsEach count p (oldest ∷ more)
      → AwaitsEach count (Made (BarrierDone oldest.number height good) ∷ p) more
  AwaitsEach-done p oldest more height good h k i live =
      let both = and_parts (not (k == oldest.number)) (live_flush count k i p) live in
      let ne = eqb-false k oldest.number (not-true (k == oldest.number) both.0) in
      ⊎_elim (λ w. absurd (ne (sym (eqb-true oldest.number k (and_parts (eqb oldest.number k) (is_some (open_at oldest.barrier i)) w).0))))
      (λ rest. rest) (awaited_at k i oldest more (h k i both.1))

  -- where no barrier is live
  pub AwaitsEach-none : (p : Past B C I) (barriers : List Active) → ((k : ℕ) → live_barrier k p ≡ false) → AwaitsEach count p barriers
  AwaitsEach-none p barriers none k i live = absurd (false≢true (sym (none k) ∙ live_flush_barrier k i p live))
