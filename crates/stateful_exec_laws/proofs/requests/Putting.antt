-- Tables with a value put in.
use Rattle.std.proofs.Common.{◌≡◌, ◌≢◌, ◌==◌, ◌<◌, ℕ, Bool, true, false, List, [], ◌∷◌, All, Some, None, cond, refl, sym, ap, ◌∙◌, subst, arith}
use Rattle.std.specs.Ordering.{nat_cmp, match_ordering, MatchOrdering}
use Rattle.std.specs.declared.cmp.Ordering.{Ordering}
use Rattle.std.specs.declared.cmp.Ordering.TheVariants.{Less, Equal, Greater}
use Rattle.std.specs.Map.{keys_of}
use Rattle.std.specs.List.{AllByRecursion}
use Rattle.std.specs.List.Sorted.{IsStrictlySortedBy}
use Rattle.std.proofs.lemmas.Bool.{eq-eqb}
use Rattle.std.proofs.lemmas.Bool.Decides.{nat_tests}
use Rattle.std.proofs.lemmas.Cmp.{ranked}
use Rattle.std.proofs.lemmas.List.Elements.{All-cons, All-head, All-tail}
use Rattle.stateful_table.specs.Table.{at, put}
use Rattle.stateful_table.proofs.Tables.{is_at_number, at-put}
use Rattle.stateful_exec_tables.specs.Phase.{is_on, tickets_on}
use Rattle.stateful_exec_tables.specs.declared.tables.Requested.{Requested}
use Rattle.stateful_exec_laws.proofs.runs.Removing.{differ}

less_further : (a b c : ℕ) → nat_cmp a b ≡ Less → nat_cmp b c ≡ Less → nat_cmp a c ≡ Less
less_further a b c x y = grind (arith, nat_tests)

above_less : (a b : ℕ) → nat_cmp a b ≡ Greater → nat_cmp b a ≡ Less
above_less a b x = grind (arith, nat_tests)

all_further : (a b : ℕ) → nat_cmp a b ≡ Less → (ks : List ℕ) → AllByRecursion (λ k. nat_cmp b k ≡ Less) ks → AllByRecursion (λ k. nat_cmp a k ≡ Less) ks
all_further a b less [] all = tt
all_further a b less (k ∷ ks) all = (less_further a b k less all.0, all_further a b less ks all.1)

module _ {V : Type 0} where
  all_put : (P : ℕ → Type 0) (es : List (ℕ × V)) (t : ℕ) (v : V) → AllByRecursion P (keys_of es) → P t → AllByRecursion P (keys_of (put es t v))
  all_put P [] t v all here = (here, tt)
  all_put P (e ∷ es) t v all here = go (nat_cmp t e.0) (all_put P es t v all.1 here)
    where
      go : (o : Ordering) → AllByRecursion P (keys_of (put es t v)) → AllByRecursion P (keys_of (match_ordering o ((t, v) ∷ e ∷ es) ((e.0, v) ∷ es) (e ∷ put es t v)))
      go Less rest = (here, all)
      go Equal rest = all
      go Greater rest = (all.0, rest)

  -- numbers stay in order
  pub sorted_put : (es : List (ℕ × V)) (t : ℕ) (v : V) → IsStrictlySortedBy nat_cmp (keys_of es) → IsStrictlySortedBy nat_cmp (keys_of (put es t v))
  unfolding IsStrictlySortedBy
  sorted_put [] t v sorted = (tt, tt)
  sorted_put (e ∷ es) t v sorted = go (nat_cmp t e.0) refl (sorted_put es t v sorted.1)
    where
      go : (o : Ordering) → nat_cmp t e.0 ≡ o → IsStrictlySortedBy nat_cmp (keys_of (put es t v)) → IsStrictlySortedBy nat_cmp (keys_of (match_ordering o ((t, v) ∷ e ∷ es) ((e.0, v) ∷ es) (e ∷ put es t v)))
      go Less is rest = ((is, all_further t e.0 is (keys_of es) sorted.0), sorted)
      go Equal is rest = sorted
      go Greater is rest = (all_put (λ k. nat_cmp e.0 k ≡ Less) es t v sorted.0 (above_less t e.0 is), rest)

  -- what holds of each entry and of the new one holds of all
  pub All-put : (P : ℕ × V → Type 0) (es : List (ℕ × V)) (t : ℕ) (v : V) → All P es → P (t, v) → All P (put es t v)
  All-put P [] t v all here = All-cons P (t, v) [] here all
  All-put P (e ∷ es) t v all here = go (nat_cmp t e.0) (ranked t e.0 (nat_cmp t e.0) refl) (All-put P es t v (All-tail P e es all) here)
    where
      go : (o : Ordering) → MatchOrdering o (t < e.0) (t ≡ e.0) (e.0 < t) → All P (put es t v) → All P (match_ordering o ((t, v) ∷ e ∷ es) ((e.0, v) ∷ es) (e ∷ put es t v))
      go Less lt rest = All-cons P (t, v) (e ∷ es) here all
      go Equal is rest = All-cons P (e.0, v) es (subst (λ k. P (k, v)) is here) (All-tail P e es all)
      go Greater gt rest = All-cons P e (put es t v) (All-head P e es all) rest

  -- what is at another number stays, and the value is at its own
  pub put_other : (es : List (ℕ × V)) (t u : ℕ) (v : V) → u ≢ t → at (put es t v) u ≡ at es u
  put_other es t u v ne = at-put es t v u ∙ ap (λ b. cond b (Some v) (at es u)) (differ t u ne)

  pub put_here : (es : List (ℕ × V)) (t : ℕ) (v : V) → at (put es t v) t ≡ Some v
  put_here es t v = at-put es t v t ∙ ap (λ b. cond b (Some v) (at es t)) (eq-eqb t t refl)

-- where some request waits for the run of a job, one does with a request more
pub tickets_more : {B C I : Type 0} (job t : ℕ) (es : List (ℕ × Requested B C I)) (r : Requested B C I) → at es t ≡ None → tickets_on job es ≢ [] → tickets_on job (put es t r) ≢ []
tickets_more job t [] r none some = absurd (some refl)
tickets_more {B = B} {C = C} {I = I} job t (e ∷ es) r none some = go (nat_cmp t e.0) (ranked t e.0 (nat_cmp t e.0) refl) (tickets_more job t es r)
  where
    further : (b : Bool) → is_on job e.1.phase ≡ b → (at es t ≡ None → tickets_on job es ≢ [] → tickets_on job (put es t r) ≢ []) → at es t ≡ None → tickets_on job (e ∷ put es t r) ≢ []
    further true on more absent = λ is. let no : e.0 ∷ tickets_on job (put es t r) ≡ [] = rw on at is in cc
    further false off more absent = λ is. more absent (λ none_left. some (rw off none_left)) (rw off at is)

    before : (b : Bool) → is_on job r.phase ≡ b → tickets_on job ((t, r) ∷ e ∷ es) ≢ []
    before true on = λ is. let no : t ∷ tickets_on job (e ∷ es) ≡ [] = rw on at is in cc
    before false off = λ is. some (rw off at is)

    go : (o : Ordering) → MatchOrdering o (t < e.0) (t ≡ e.0) (e.0 < t) → (at es t ≡ None → tickets_on job es ≢ [] → tickets_on job (put es t r) ≢ [])
        → tickets_on job (match_ordering o ((t, r) ∷ e ∷ es) ((e.0, r) ∷ es) (e ∷ put es t r)) ≢ []
    go Less lt more = before (is_on job r.phase) refl
    go Equal is more = let here : (e.0 == t) ≡ true = eq-eqb e.0 t (sym is) in let no : Some e.1 ≡ None = rw (is_at_number t e.0 ∙ here) at none in cc
    go Greater gt more = let other : (e.0 == t) ≡ false = differ e.0 t (λ same. omega (arith, gt, same)) in further (is_on job e.1.phase) refl more (rw (is_at_number t e.0 ∙ other) at none)

-- a request that is put in waits for its run
pub tickets_put : {B C I : Type 0} (job t : ℕ) (es : List (ℕ × Requested B C I)) (r : Requested B C I) → is_on job r.phase ≡ true → tickets_on job (put es t r) ≢ []
tickets_put job t [] r on = λ is. let no : t ∷ [] ≡ [] = rw on at is in cc
tickets_put job t (e ∷ es) r on = go (nat_cmp t e.0) (tickets_put job t es r on)
  where
    further : (b : Bool) → is_on job e.1.phase ≡ b → tickets_on job (put es t r) ≢ [] → tickets_on job (e ∷ put es t r) ≢ []
    further true here more = λ is. let no : e.0 ∷ tickets_on job (put es t r) ≡ [] = rw here at is in cc
    further false here more = λ is. more (rw here at is)

    go : (o : Ordering) → tickets_on job (put es t r) ≢ [] → tickets_on job (match_ordering o ((t, r) ∷ e ∷ es) ((e.0, r) ∷ es) (e ∷ put es t r)) ≢ []
    go Less more = λ is. let no : t ∷ tickets_on job (e ∷ es) ≡ [] = rw on at is in cc
    go Equal more = λ is. let no : e.0 ∷ tickets_on job es ≡ [] = rw on at is in cc
    go Greater more = further (is_on job e.1.phase) refl more
