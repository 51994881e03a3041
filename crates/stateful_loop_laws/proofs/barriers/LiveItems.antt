-- What the open barriers await are live flushes, behind each item.
use Rattle.std.proofs.Common.{◌≡◌, ◌<◌, ◌∷◌, ◌++◌, ◌==◌, ◌&&◌, not, nat_lt, ⊎_elim, ◌⊎◌, inl, inr, ℕ, zero, suc, Bool, true, false, List, [], length, IsSome, AllPairs, refl, sym, ap, ◌∙◌, arith, eqb, All}
use Rattle.std.specs.Prelude.{is_some}
use Rattle.std.proofs.lemmas.Bool.{and_parts, and_from, or_left, or_right, not_from_false, and_left, and_right, eqb-true, eq-eqb, ne_eqb, lt-ltb, cases_eq, false≢true}
use Rattle.std.proofs.lemmas.List.Elements.{All-head, All-tail}
use Rattle.stateful_base.specs.declared.number.Height.{Height}
use Rattle.stateful_db.specs.Barrier.{open_at, answered}
use Rattle.stateful_db.specs.declared.barrier.Flushed.{Flushed as Answer}
use Rattle.stateful_db.specs.declared.barrier.Handle.{Handle}
use Rattle.stateful_history.specs.Live.{live_flush}
use Rattle.stateful_history.specs.Past.{Past, Item, Came, Made}
use Rattle.stateful_history.specs.declared.event.Event.TheVariants.{Flushed, Restart}
use Rattle.stateful_history.specs.declared.mark.Mark.TheVariants.{BarrierBegun, BarrierDone, Stopped}
use Rattle.stateful_loop_laws.specs.OpenBarriers.{AwaitsLive}
use Rattle.stateful_loop_laws.proofs.barriers.AwaitedItems.{awaited_first, awaited_behind, awaited_at, open_other}
use Rattle.stateful_loop_laws.proofs.loop.CalmItems.{IsCalmItem}
use Rattle.stateful_loop_model.specs.Barriers.{awaits, awaiting, answered_by, with_answer}
use Rattle.stateful_loop_model.specs.declared.barriers.Active.{Active}

-- open barriers by ascending numbers
abbrev Ascending : List Active → Type 0
Ascending barriers = AllPairs (λ (a b : Active). a.number < b.number) barriers

greater : (b : Active) (bs : List Active) → Ascending (b ∷ bs) → All (λ (a : Active). b.number < a.number) bs
greater b bs up k x l = up 0 (suc k) x (omega arith) (omega (arith, l))

ascending_rest : (b : Active) (bs : List Active) → Ascending (b ∷ bs) → Ascending bs
ascending_rest b bs up i j x lt l = up (suc i) (suc j) x (omega (arith, lt)) (omega (arith, l))

own_number : (k i : ℕ) (b : Active) → awaits k i b ≡ true → b.number ≡ k
own_number k i b w = eqb-true b.number k (and_parts (eqb b.number k) (is_some (open_at b.barrier i)) w).0

-- what a list awaits is of a number in it
awaited_above : (n k i : ℕ) (bs : List Active) → All (λ (a : Active). n < a.number) bs → IsSome (awaiting k i bs) → n < k
awaited_above n k i [] above some = absurd (false≢true some)
awaited_above n k i (b ∷ bs) above some = ⊎_elim
    (λ w. let low = All-head (λ (a : Active). n < a.number) b bs above in omega (arith, low, own_number k i b w))
    (λ rest. awaited_above n k i bs (All-tail (λ (a : Active). n < a.number) b bs above) rest)
    (awaited_at k i b bs some)

awaited_cases : (k i : ℕ) (xs ys : List Active) → IsSome (awaiting k i (xs ++ ys)) → IsSome (awaiting k i xs) ⊎ IsSome (awaiting k i ys)
awaited_cases k i [] ys some = inr some
awaited_cases k i (x ∷ xs) ys some = ⊎_elim
    (λ w. inl (awaited_first k i x xs w))
    (λ rest. ⊎_elim (λ left. inl (awaited_behind k i x xs left)) (λ right. inr right) (awaited_cases k i xs ys rest))
    (awaited_at k i x (xs ++ ys) some)

-- the answered handle isn't open
open_own : (answer : Answer) (hs : List Handle) (n : ℕ) → is_some (open_at (answered hs n answer) n) ≡ false
open_own answer [] n = refl
open_own answer (h ∷ hs) zero = refl
open_own answer (h ∷ hs) (suc n) = open_own answer hs n

open_before : (answer : Answer) (hs : List Handle) (n i : ℕ) → is_some (open_at (answered hs n answer) i) ≡ true
    → (i ≡ n → ⊥) × (is_some (open_at hs i) ≡ true)
open_before answer hs n i some = ⊎_elim
    (λ e. absurd (false≢true (sym (open_own answer hs n) ∙ ap (λ j. is_some (open_at (answered hs n answer) j)) (sym e) ∙ some)))
    (λ ne. (ne, ap is_some (sym (open_other answer hs n i ne)) ∙ some))
    (cases_eq i n)

-- what is awaited behind an answer was awaited, and is another flush
awaited_other : (m n : ℕ) (answer : Answer) (k i : ℕ) (barriers : List Active) → Ascending barriers
    → IsSome (awaiting k i (with_answer m n answer barriers))
    → (IsSome (awaiting m n barriers) → (k ≡ m) × (i ≡ n) → ⊥) × IsSome (awaiting k i barriers)
awaited_other m n answer k i [] up some = absurd (false≢true some)
awaited_other m n answer k i (b ∷ bs) up some = by (awaits m n b) refl (λ rest. awaited_other m n answer k i bs (ascending_rest b bs up) rest)
  where
    answers : awaits m n b ≡ true → IsSome (awaiting k i (answered_by n answer b ∷ bs))
        → (IsSome (awaiting m n (b ∷ bs)) → (k ≡ m) × (i ≡ n) → ⊥) × IsSome (awaiting k i (b ∷ bs))
    answers w there = ⊎_elim
        (λ v. let parts = and_parts (eqb b.number k) (is_some (open_at (answered b.barrier n answer) i)) v in
        let before = open_before answer b.barrier n i parts.1 in
        ((λ was same. before.0 same.1), awaited_first k i b bs (and_from (eqb b.number k) (is_some (open_at b.barrier i)) parts.0 before.1)))
        (λ rest. let above = awaited_above b.number k i bs (greater b bs up) rest in
        ((λ was same. omega (arith, above, own_number m n b w, same.0)), awaited_behind k i b bs rest))
        (awaited_at k i (answered_by n answer b) bs there)

    by : (t : Bool) → awaits m n b ≡ t
        → (IsSome (awaiting k i (with_answer m n answer bs)) → (IsSome (awaiting m n bs) → (k ≡ m) × (i ≡ n) → ⊥) × IsSome (awaiting k i bs))
        → (IsSome (awaiting m n (b ∷ bs)) → (k ≡ m) × (i ≡ n) → ⊥) × IsSome (awaiting k i (b ∷ bs))
    by true w rest = answers w (rw w at some)
    by false w rest =
        let there : IsSome (awaiting k i (b ∷ with_answer m n answer bs)) = rw w at some in
        ⊎_elim
        (λ v. (
          (λ was same. ⊎_elim
              (λ x. false≢true (sym w ∙ x))
              (λ later. let above = awaited_above b.number m n bs (greater b bs up) later in omega (arith, above, own_number k i b v, same.0))
              (awaited_at m n b bs was)),
          awaited_first k i b bs v,
        ))
        (λ later. let r = rest later in
        ((λ was same. ⊎_elim (λ x. false≢true (sym w ∙ x)) (λ other. r.0 other same) (awaited_at m n b bs was)), awaited_behind k i b bs r.1))
        (awaited_at k i b (with_answer m n answer bs) there)

module _ {B C I : Type 0} (count : ℕ) (p : Past B C I) (barriers : List Active) (h : AwaitsLive count p barriers) where
  -- behind calm items, and after an applied block
  pub AwaitsLive-calm : (x : Item B C I) → IsCalmItem x → AwaitsLive count (x ∷ p) barriers
  AwaitsLive-calm (Came (Restart floor keep)) calm = absurd calm
  AwaitsLive-calm (Came (Flushed k i answer)) calm = absurd calm
  AwaitsLive-calm (Made (BarrierBegun k height)) calm = absurd calm
  AwaitsLive-calm (Made (BarrierDone k height good)) calm = absurd calm
  AwaitsLive-calm (Made Stopped) calm = absurd calm
  AwaitsLive-calm x calm = h

  -- behind an answer that is awaited
  pub AwaitsLive-flushed : (m n : ℕ) (answer : Answer) → Ascending barriers → IsSome (awaiting m n barriers)
      → AwaitsLive count (Came (Flushed m n answer) ∷ p) (with_answer m n answer barriers)
  AwaitsLive-flushed m n answer up awaited k i some =
      let r = awaited_other m n answer k i barriers up some in
      and_from (not ((k == m) && (i == n))) (live_flush count k i p) (not_from_false ((k == m) && (i == n)) (apart k i (r.0 awaited))) (h k i r.1)
    where
      apart : (k i : ℕ) → ((k ≡ m) × (i ≡ n) → ⊥) → ((k == m) && (i == n)) ≡ false
      apart k i other = ⊎_elim
          (λ e. ⊎_elim (λ f. absurd (other (e, f))) (λ ne. and_right (k == m) (i == n) (ne_eqb i n ne)) (cases_eq i n))
          (λ ne. and_left (k == m) (i == n) (ne_eqb k m ne))
          (cases_eq k m)

  -- behind the begin of a barrier with a token for each database
  pub AwaitsLive-begun : (new : Active) → length new.barrier ≡ count
      → AwaitsLive count (Made (BarrierBegun new.number new.height) ∷ p) (barriers ++ new ∷ [])
  AwaitsLive-begun new as_many k i some = ⊎_elim
      (λ old. or_right ((k == new.number) && nat_lt i count) (live_flush count k i p) (h k i old))
      (λ own. ⊎_elim (λ w. or_left ((k == new.number) && nat_lt i count) (live_flush count k i p) (its w)) (λ none. absurd (false≢true none))
      (awaited_at k i new [] own))
      (awaited_cases k i barriers (new ∷ []) some)
    where
      within : (hs : List Handle) (j : ℕ) → is_some (open_at hs j) ≡ true → j < length hs
      within [] j e = absurd (false≢true e)
      within (x ∷ hs) zero e = omega arith
      within (x ∷ hs) (suc j) e = omega (arith, within hs j e)

      its : awaits k i new ≡ true → ((k == new.number) && nat_lt i count) ≡ true
      its w =
          let lt = within new.barrier i (and_parts (eqb new.number k) (is_some (open_at new.barrier i)) w).1 in
          and_from (k == new.number) (nat_lt i count) (eq-eqb k new.number (sym (own_number k i new w))) (lt-ltb i count (omega (arith, lt, as_many)))

-- after the end of the oldest
pub AwaitsLive-done : {B C I : Type 0} (count : ℕ) (p : Past B C I) (oldest : Active) (more : List Active) (height : Height)
    → Ascending (oldest ∷ more) → AwaitsLive count p (oldest ∷ more)
    → AwaitsLive count (Made (BarrierDone oldest.number height true) ∷ p) more
AwaitsLive-done count p oldest more height up h k i some =
    let above = awaited_above oldest.number k i more (greater oldest more up) some in
    and_from (not (k == oldest.number)) (live_flush count k i p)
    (not_from_false (k == oldest.number) (ne_eqb k oldest.number (λ e. omega (arith, e, above))))
    (h k i (awaited_behind k i oldest more some))
