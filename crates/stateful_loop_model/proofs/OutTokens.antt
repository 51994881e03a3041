-- Which tokens are out, where barriers begin, are answered and complete.
use Rattle.std.proofs.Common.{◌≡◌, ◌⊎◌, inl, inr, ⊎_elim, ℕ, zero, suc, ◌≤◌, ◌&&◌, Bool, true, false, Option, Some, None, List, [], ◌∷◌, ◌++◌, length, refl, sym, ap, ◌∙◌, append_assoc, append-nil, arith, eqb}
use Rattle.std.proofs.lemmas.Bool.Decides.{nat_tests}
use Rattle.std.proofs.lemmas.Bool.{false≢true, cases_Bool}
use Rattle.std.specs.Prelude.{is_some, map}
use Rattle.std.specs.List.{list_all}
use Rattle.stateful_db.specs.Barrier.{open_at, still_open, answered}
use Rattle.stateful_db.specs.Tokens.{without}
use Rattle.stateful_db.specs.declared.barrier.Flushed.{Flushed}
use Rattle.stateful_db.specs.declared.barrier.Flushed.TheVariants.{Good, Interrupted}
use Rattle.stateful_db.specs.declared.barrier.Handle.{Handle}
use Rattle.stateful_db.specs.declared.database.FlushToken.{FlushToken}
use Rattle.stateful_loop_model.specs.Barriers.{awaits, awaiting, with_answer, answered_by, is_good}
use Rattle.stateful_loop_model.specs.Sound.{out_of, out_in, out_at}
use Rattle.stateful_loop_model.specs.declared.barriers.Active.{Active}

-- an open token is out
out_open : (token : FlushToken) (answer : Option Flushed) (t : FlushToken) → still_open (record { token = token; answer = answer }) ≡ Some t
    → out_of (record { token = token; answer = answer }) ≡ t.place ∷ []
out_open token None t e = cc
out_open token (Some a) t e = absurd (cc)

pub out_in_open : (handles : List Handle) (i : ℕ) (t : FlushToken) → open_at handles i ≡ Some t → out_in handles i ≡ t.place ∷ []
out_in_open [] i t e = absurd (cc)
out_in_open (h ∷ hs) zero t e = out_open h.token h.answer t e
out_in_open (h ∷ hs) (suc i) t e = out_in_open hs i t e

-- behind a good answer it isn't, and behind another one it still is
pub out_in_good : (handles : List Handle) (i : ℕ) → out_in (answered handles i Good) i ≡ []
out_in_good [] i = refl
out_in_good (h ∷ hs) zero = refl
out_in_good (h ∷ hs) (suc i) = out_in_good hs i

pub out_in_other : (handles : List Handle) (i j : ℕ) (answer : Flushed) → (j ≡ i → ⊥) → out_in (answered handles i answer) j ≡ out_in handles j
out_in_other [] i j answer ne = refl
out_in_other (h ∷ hs) zero zero answer ne = absurd (ne refl)
out_in_other (h ∷ hs) zero (suc j) answer ne = refl
out_in_other (h ∷ hs) (suc i) zero answer ne = refl
out_in_other (h ∷ hs) (suc i) (suc j) answer ne = out_in_other hs i j answer (λ e. ne (ap suc e))

-- one barrier more
pub out_at_push : (barriers : List Active) (active : Active) (i : ℕ) → out_at (barriers ++ active ∷ []) i ≡ out_at barriers i ++ out_in active.barrier i
out_at_push [] active i = append-nil (out_in active.barrier i)
out_at_push (a ∷ more) active i = ap (λ xs. out_in a.barrier i ++ xs) (out_at_push more active i) ∙ sym (append_assoc (out_in a.barrier i) (out_at more i) (out_in active.barrier i))

-- a flushed barrier has none
and_left : (x y : Bool) → (x && y) ≡ true → x ≡ true
and_left true y e = refl
and_left false y e = e

and_right : (x y : Bool) → (x && y) ≡ true → y ≡ true
and_right true y e = e
and_right false y e = absurd (false≢true e)

good_is_in : (token : FlushToken) (answer : Option Flushed) → is_good answer ≡ true → out_of (record { token = token; answer = answer }) ≡ []
good_is_in token None e = absurd (false≢true e)
good_is_in token (Some Good) e = refl
good_is_in token (Some Interrupted) e = absurd (false≢true e)

pub out_in_flushed : (handles : List Handle) (i : ℕ) → list_all (λ handle. is_good handle.answer) handles ≡ true → out_in handles i ≡ []
out_in_flushed [] i e = refl
out_in_flushed (h ∷ hs) zero e = good_is_in h.token h.answer (and_left (is_good h.answer) (list_all (λ handle. is_good handle.answer) hs) e)
out_in_flushed (h ∷ hs) (suc i) e = out_in_flushed hs i (and_right (is_good h.answer) (list_all (λ handle. is_good handle.answer) hs) e)

-- at most one is out in a barrier
out_of_few : (token : FlushToken) (answer : Option Flushed) → (out_of (record { token = token; answer = answer }) ≡ []) ⊎ (out_of (record { token = token; answer = answer }) ≡ token.place ∷ [])
out_of_few token None = inr refl
out_of_few token (Some Good) = inl refl
out_of_few token (Some Interrupted) = inr refl

out_in_few : (handles : List Handle) (i : ℕ) → (out_in handles i ≡ []) ⊎ ((q : ℕ) × (out_in handles i ≡ q ∷ []))
out_in_few [] i = inl refl
out_in_few (h ∷ hs) zero = ⊎_elim (λ e. inl e) (λ e. inr (h.token.place, e)) (out_of_few h.token h.answer)
out_in_few (h ∷ hs) (suc i) = out_in_few hs i

answered_first : (k i : ℕ) (answer : Flushed) (b : Active) (bs : List Active) → awaits k i b ≡ true → with_answer k i answer (b ∷ bs) ≡ answered_by i answer b ∷ bs
answered_first k i answer b bs e = rw e refl

answered_behind : (k i : ℕ) (answer : Flushed) (b : Active) (bs : List Active) → awaits k i b ≡ false → with_answer k i answer (b ∷ bs) ≡ b ∷ with_answer k i answer bs
answered_behind k i answer b bs e = rw e refl

pub awaiting_first : (k i : ℕ) (b : Active) (bs : List Active) → awaits k i b ≡ true → awaiting k i (b ∷ bs) ≡ Some b
awaiting_first k i b bs e = rw e refl

pub awaiting_behind : (k i : ℕ) (b : Active) (bs : List Active) → awaits k i b ≡ false → awaiting k i (b ∷ bs) ≡ awaiting k i bs
awaiting_behind k i b bs e = rw e refl

-- behind an answer of another database nothing has changed
pub out_at_other : (k i j : ℕ) (answer : Flushed) (barriers : List Active) → (j ≡ i → ⊥) → out_at (with_answer k i answer barriers) j ≡ out_at barriers j
out_at_other k i j answer [] ne = refl
out_at_other k i j answer (b ∷ bs) ne = ⊎_elim
    (λ e. ap (λ xs. out_at xs j) (answered_first k i answer b bs e) ∙ ap (λ xs. xs ++ out_at bs j) (out_in_other b.barrier i j answer ne))
    (λ e. ap (λ xs. out_at xs j) (answered_behind k i answer b bs e) ∙ ap (λ xs. out_in b.barrier j ++ xs) (out_at_other k i j answer bs ne))
    (cases_Bool (awaits k i b))

-- without the token of the last barrier that awaits it
without_only : (p : ℕ) → without p (p ∷ []) ≡ []
without_only p = grind (arith, nat_tests)

without_second : (p q : ℕ) → without p (q ∷ p ∷ []) ≡ q ∷ []
without_second p q = grind (arith, nat_tests)

without_first : (p : ℕ) (more : List ℕ) → without p (p ∷ more) ≡ more
without_first p more = grind (arith, nat_tests)

without_last : (p : ℕ) (few : List ℕ) → (few ≡ []) ⊎ ((q : ℕ) × (few ≡ q ∷ [])) → without p (few ++ p ∷ []) ≡ few ++ []
without_last p few h = ⊎_elim
    (λ e. ap (λ xs. without p (xs ++ p ∷ [])) e ∙ without_only p ∙ sym (ap (λ xs. xs ++ []) e))
    (λ (q, e). ap (λ xs. without p (xs ++ p ∷ [])) e ∙ without_second p q ∙ sym (ap (λ xs. xs ++ []) e))
    h

pub some_is : (a b : Active) → Some a ≡ Some b → a ≡ b
some_is a b e = cc

module _ (k i : ℕ) where
  good_first : (b a : Active) (bs : List Active) (t : FlushToken) → awaits k i b ≡ true → awaiting k i (b ∷ bs) ≡ Some a → open_at a.barrier i ≡ Some t
      → out_at (with_answer k i Good (b ∷ bs)) i ≡ without t.place (out_at (b ∷ bs) i)
  good_first b a bs t w e o =
      let same : b ≡ a = some_is b a (sym (awaiting_first k i b bs w) ∙ e) in
      let opened : open_at b.barrier i ≡ Some t = ap (λ x. open_at x.barrier i) same ∙ o in
      ap (λ xs. out_at xs i) (answered_first k i Good b bs w)
      ∙ ap (λ xs. xs ++ out_at bs i) (out_in_good b.barrier i)
      ∙ sym (ap (λ xs. without t.place (xs ++ out_at bs i)) (out_in_open b.barrier i t opened) ∙ without_first t.place (out_at bs i))

  none_is_some : (a : Active) → None ≡ Some a → ⊥
  none_is_some a h = cc

  good_second : (b c a : Active) (t : FlushToken) → awaits k i b ≡ false → awaiting k i (b ∷ c ∷ []) ≡ Some a → open_at a.barrier i ≡ Some t → awaits k i c ≡ true
      → out_at (with_answer k i Good (b ∷ c ∷ [])) i ≡ without t.place (out_at (b ∷ c ∷ []) i)
  good_second b c a t w e o v =
      let behind : awaiting k i (c ∷ []) ≡ Some a = sym (awaiting_behind k i b (c ∷ []) w) ∙ e in
      let same : c ≡ a = some_is c a (sym (awaiting_first k i c [] v) ∙ behind) in
      let opened : out_in c.barrier i ≡ t.place ∷ [] = out_in_open c.barrier i t (ap (λ x. open_at x.barrier i) same ∙ o) in
      let gone : out_at (with_answer k i Good (c ∷ [])) i ≡ [] =
      good_first c a [] t v behind o ∙ ap (λ xs. without t.place (xs ++ [])) opened ∙ without_only t.place in
      ap (λ xs. out_at xs i) (answered_behind k i Good b (c ∷ []) w)
      ∙ ap (λ xs. out_in b.barrier i ++ xs) gone
      ∙ sym (ap (λ xs. without t.place (out_in b.barrier i ++ (xs ++ []))) opened ∙ without_last t.place (out_in b.barrier i) (out_in_few b.barrier i))

  pub out_at_good : (barriers : List Active) (a : Active) (t : FlushToken) → length barriers ≤ 2 → awaiting k i barriers ≡ Some a → open_at a.barrier i ≡ Some t
      → out_at (with_answer k i Good barriers) i ≡ without t.place (out_at barriers i)
  out_at_good [] a t few e o = absurd (cc)
  out_at_good (b ∷ []) a t few e o = ⊎_elim (λ w. good_first b a [] t w e o) (λ w. absurd (none_is_some a (sym (awaiting_behind k i b [] w) ∙ e))) (cases_Bool (awaits k i b))
  out_at_good (b ∷ c ∷ []) a t few e o = ⊎_elim
      (λ w. good_first b a (c ∷ []) t w e o)
      (λ w. ⊎_elim (λ v. good_second b c a t w e o v)
      (λ v. absurd (none_is_some a (sym (awaiting_behind k i b (c ∷ []) w ∙ awaiting_behind k i c [] v) ∙ e))) (cases_Bool (awaits k i c)))
      (cases_Bool (awaits k i b))
  out_at_good (b ∷ c ∷ d ∷ more) a t few e o = absurd (omega arith)

-- behind an interrupted answer it still is
still_out : (token : FlushToken) (answer : Option Flushed) (t : FlushToken) → still_open (record { token = token; answer = answer }) ≡ Some t
    → token.place ∷ [] ≡ out_of (record { token = token; answer = answer })
still_out token None t e = refl
still_out token (Some a) t e = absurd (cc)

interrupted_in : (handles : List Handle) (j n : ℕ) (t : FlushToken) → open_at handles j ≡ Some t → out_in (answered handles j Interrupted) n ≡ out_in handles n
interrupted_in [] j n t e = refl
interrupted_in (h ∷ hs) zero zero t e = still_out h.token h.answer t e
interrupted_in (h ∷ hs) zero (suc n) t e = refl
interrupted_in (h ∷ hs) (suc j) zero t e = refl
interrupted_in (h ∷ hs) (suc j) (suc n) t e = interrupted_in hs j n t e

pub opened_by : (k i : ℕ) (b : Active) → awaits k i b ≡ true → (t : FlushToken) × (open_at b.barrier i ≡ Some t)
opened_by k i b w = some_there (open_at b.barrier i) (and_right (eqb b.number k) (is_some (open_at b.barrier i)) w)
  where
    some_there : (o : Option FlushToken) → is_some o ≡ true → (t : FlushToken) × (o ≡ Some t)
    some_there None h = absurd (false≢true h)
    some_there (Some t) h = (t, refl)

pub out_at_interrupted : (k i j : ℕ) (barriers : List Active) → out_at (with_answer k i Interrupted barriers) j ≡ out_at barriers j
out_at_interrupted k i j [] = refl
out_at_interrupted k i j (b ∷ bs) = ⊎_elim
    (λ w. ap (λ xs. out_at xs j) (answered_first k i Interrupted b bs w)
    ∙ ap (λ xs. xs ++ out_at bs j) (interrupted_in b.barrier i j (opened_by k i b w).0 (opened_by k i b w).1))
    (λ w. ap (λ xs. out_at xs j) (answered_behind k i Interrupted b bs w) ∙ ap (λ xs. out_in b.barrier j ++ xs) (out_at_interrupted k i j bs))
    (cases_Bool (awaits k i b))

-- as many handles as before
length-answered : (handles : List Handle) (i : ℕ) (answer : Flushed) → length (answered handles i answer) ≡ length handles
length-answered [] i answer = refl
length-answered (h ∷ hs) zero answer = refl
length-answered (h ∷ hs) (suc i) answer = ap suc (length-answered hs i answer)

pub heights_answered : {T : Type 0} (f : Active → T) → ((a : Active) (i : ℕ) (answer : Flushed) → f (answered_by i answer a) ≡ f a)
    → (k i : ℕ) (answer : Flushed) (barriers : List Active) → map f (with_answer k i answer barriers) ≡ map f barriers
heights_answered f same k i answer [] = refl
heights_answered f same k i answer (b ∷ bs) = ⊎_elim
    (λ w. ap (map f) (answered_first k i answer b bs w) ∙ ap (λ x. x ∷ map f bs) (same b i answer))
    (λ w. ap (map f) (answered_behind k i answer b bs w) ∙ ap (λ xs. f b ∷ xs) (heights_answered f same k i answer bs))
    (cases_Bool (awaits k i b))

pub counts_answered : (k i : ℕ) (answer : Flushed) (barriers : List Active) → map (λ a. length a.barrier) (with_answer k i answer barriers) ≡ map (λ a. length a.barrier) barriers
counts_answered k i answer barriers = heights_answered (λ a. length a.barrier) (λ a n b. length-answered a.barrier n b) k i answer barriers
