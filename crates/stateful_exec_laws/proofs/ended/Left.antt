-- The requests that wait for no run of a job, and those that do.
use Rattle.std.proofs.Common.{◌≡◌, ◌≢◌, ◌==◌, not, ℕ, Bool, true, false, List, [], ◌∷◌, filter, All, AllPairs, Some, None, arith, refl, sym, ap, ◌∙◌, subst}
use Rattle.std.specs.Ordering.{nat_cmp}
use Rattle.std.specs.BTreeMap.{is_at}
use Rattle.std.specs.Map.{keys_of}
use Rattle.std.specs.List.{AllByRecursion}
use Rattle.std.specs.List.Sorted.{IsStrictlySortedBy}
use Rattle.std.specs.declared.cmp.Ordering.TheVariants.{Less}
use Rattle.std.proofs.lemmas.Bool.{eqb-true, eq-eqb}
use Rattle.std.proofs.lemmas.Cmp.{nat_cmp_total, eq_by_cmp_equiv}
use Rattle.std.proofs.lemmas.List.Elements.{All-cons, All-head, All-tail, All-nil, All-weaker}
use Rattle.std.proofs.lemmas.List.Kept.{AllPairs-cons}
use Rattle.std.proofs.lemmas.Map.Keys.{sorted_head, sorted_tail, IsDistinct-from_sorted}
use Rattle.std.proofs.lemmas.Map.Entries.{lookup-filter-values, option_filter}
use Rattle.stateful_table.specs.Table.{at}
use Rattle.stateful_table.proofs.Tables.{is_at_number}
use Rattle.stateful_exec_walk.specs.Path.{Path}
use Rattle.stateful_exec_tables.specs.Phase.{is_on, tickets_on, path_on, released_on, not_on}
use Rattle.stateful_exec_tables.specs.declared.tables.Phase.{Phase}
use Rattle.stateful_exec_tables.specs.declared.tables.Phase.TheVariants.{Open, Fetching, Waiting, Executing, Parked}
use Rattle.stateful_exec_tables.specs.declared.tables.Released.{Released}
use Rattle.stateful_exec_tables.specs.declared.tables.Requested.{Requested}

module _ {V : Type 0} (keep : ℕ × V → Bool) where
  below_filter : (k : ℕ) (es : List (ℕ × V)) → AllByRecursion (λ y. nat_cmp k y ≡ Less) (keys_of es) → AllByRecursion (λ y. nat_cmp k y ≡ Less) (keys_of (filter keep es))
  below_filter k [] h = h
  below_filter k (e ∷ es) h = go (keep e) refl (below_filter k es h.1)
    where
      go : (b : Bool) → keep e ≡ b → AllByRecursion (λ y. nat_cmp k y ≡ Less) (keys_of (filter keep es)) → AllByRecursion (λ y. nat_cmp k y ≡ Less) (keys_of (filter keep (e ∷ es)))
      go true is rest = rw is (h.0, rest)
      go false is rest = rw is rest

  -- numbers stay in order where entries are left out
  pub sorted_filter : (es : List (ℕ × V)) → IsStrictlySortedBy nat_cmp (keys_of es) → IsStrictlySortedBy nat_cmp (keys_of (filter keep es))
  unfolding IsStrictlySortedBy
  sorted_filter [] sorted = sorted
  sorted_filter (e ∷ es) sorted = go (keep e) refl (sorted_filter es sorted.1)
    where
      go : (b : Bool) → keep e ≡ b → IsStrictlySortedBy nat_cmp (keys_of (filter keep es)) → IsStrictlySortedBy nat_cmp (keys_of (filter keep (e ∷ es)))
      go true is rest = rw is (below_filter e.0 es sorted.0, rest)
      go false is rest = rw is rest

module _ {V : Type 0} where
  -- the numbers of entries above a number are above it
  pub at_below : (k : ℕ) (es : List (ℕ × V)) (t : ℕ) (v : V) → AllByRecursion (λ y. nat_cmp k y ≡ Less) (keys_of es) → at es t ≡ Some v → nat_cmp k t ≡ Less
  at_below k [] t v h there = let no : None ≡ Some v = there in cc
  at_below k (e ∷ es) t v h there = go (e.0 == t) refl (at_below k es t v h.1)
    where
      go : (b : Bool) → (e.0 == t) ≡ b → (at es t ≡ Some v → nat_cmp k t ≡ Less) → nat_cmp k t ≡ Less
      go true is rest = subst (λ n. nat_cmp k n ≡ Less) (eqb-true e.0 t is) h.0
      go false is rest = rest (rw (is_at_number t e.0 ∙ is) at there)

  -- an entry is found at its number, where the numbers are in order
  pub each_at : (es : List (ℕ × V)) → IsStrictlySortedBy nat_cmp (keys_of es) → All (λ e. at es e.0 ≡ Some e.1) es
  each_at [] sorted = All-nil (λ (e : ℕ × V). at [] e.0 ≡ Some e.1)
  each_at (e ∷ es) sorted =
      All-cons (λ (x : ℕ × V). at (e ∷ es) x.0 ≡ Some x.1) e es (rw (is_at_number e.0 e.0 ∙ eq-eqb e.0 e.0 refl) refl)
      (All-weaker (λ (x : ℕ × V). at es x.0 ≡ Some x.1) (λ x. at (e ∷ es) x.0 ≡ Some x.1) (λ x there. later x there (e.0 == x.0) refl) es
      (each_at es (sorted_tail nat_cmp e.0 (keys_of es) sorted)))
    where
      later : (x : ℕ × V) → at es x.0 ≡ Some x.1 → (b : Bool) → (e.0 == x.0) ≡ b → at (e ∷ es) x.0 ≡ Some x.1
      later x there false is = rw (is_at_number x.0 e.0 ∙ is) there
      later x there true is =
          let less = at_below e.0 es x.0 x.1 (sorted_head nat_cmp e.0 (keys_of es) sorted) there in
          let off : is_at (nat_cmp x.0) x.0 ≡ false = rw (subst (λ n. nat_cmp n x.0 ≡ Less) (eqb-true e.0 x.0 is) less) refl in
          let no : true ≡ false = sym (is_at_number x.0 x.0 ∙ eq-eqb x.0 x.0 refl) ∙ off in cc

module _ {B C I : Type 0} (job : ℕ) where
  -- what holds of each request that waits for the run of the job holds of each that is released
  pub All-released : (P : Released B C I → Type 0) (es : List (ℕ × Requested B C I))
      → All (λ e. (path : Path B) → e.1.phase ≡ Executing job path → P (record { ticket = e.0; request = e.1.request; path = path })) es → All P (released_on job es)
  All-released P [] all = All-nil P
  All-released P (e ∷ es) all = by_phase e.1.phase refl (All-released P es (All-tail Q e es all))
    where
      Q : ℕ × Requested B C I → Type 0
      Q x = (path : Path B) → x.1.phase ≡ Executing job path → P (record { ticket = x.0; request = x.1.request; path = path })

      passed : path_on job e.1.phase ≡ None → All P (released_on job es) → All P (released_on job (e ∷ es))
      passed none rest = rw none rest

      on : (k : ℕ) (path : Path B) → e.1.phase ≡ Executing k path → (b : Bool) → (k == job) ≡ b → All P (released_on job es) → All P (released_on job (e ∷ es))
      on k path is true same rest = rw (is, same) (All-cons P _ _ (All-head Q e es all path (subst (λ n. e.1.phase ≡ Executing n path) (eqb-true k job same) is)) rest)
      on k path is false other rest = rw (is, other) rest

      by_phase : (phase : Phase B) → e.1.phase ≡ phase → All P (released_on job es) → All P (released_on job (e ∷ es))
      by_phase (Executing k path) is rest = on k path is (k == job) refl rest
      by_phase Open is rest = passed (rw is refl) rest
      by_phase (Fetching f) is rest = passed (rw is refl) rest
      by_phase Waiting is rest = passed (rw is refl) rest
      by_phase (Parked path) is rest = passed (rw is refl) rest

  -- each that is released is of another ticket
  pub released_apart : (es : List (ℕ × Requested B C I)) → IsStrictlySortedBy nat_cmp (keys_of es) → AllPairs (λ r s. r.ticket ≢ s.ticket) (released_on job es)
  released_apart [] sorted = λ i k d less within. absurd (omega (arith, within))
  released_apart (e ∷ es) sorted = by_phase e.1.phase refl (released_apart es (sorted_tail nat_cmp e.0 (keys_of es) sorted))
    where
      R : Released B C I → Released B C I → Type 0
      R r s = r.ticket ≢ s.ticket

      below : All (λ x. e.0 ≢ x.0) es
      below = All-weaker (λ (x : ℕ × Requested B C I). at es x.0 ≡ Some x.1) (λ x. e.0 ≢ x.0) (λ x there same.
          let less = at_below e.0 es x.0 x.1 (sorted_head nat_cmp e.0 (keys_of es) sorted) there in
          let off : is_at (nat_cmp x.0) x.0 ≡ false = rw (subst (λ n. nat_cmp n x.0 ≡ Less) same less) refl in
          let no : true ≡ false = sym (is_at_number x.0 x.0 ∙ eq-eqb x.0 x.0 refl) ∙ off in cc) es (each_at es (sorted_tail nat_cmp e.0 (keys_of es) sorted))

      on : (k : ℕ) (path : Path B) → e.1.phase ≡ Executing k path → (b : Bool) → (k == job) ≡ b → AllPairs R (released_on job es) → AllPairs R (released_on job (e ∷ es))
      on k path is true same rest =
          rw (is, same) (AllPairs-cons R (record { ticket = e.0; request = e.1.request; path = path }) (released_on job es) (All-released (λ s. e.0 ≢ s.ticket) es (λ i d l way on_it. below i d l)) rest)
      on k path is false other rest = rw (is, other) rest

      passed : path_on job e.1.phase ≡ None → AllPairs R (released_on job es) → AllPairs R (released_on job (e ∷ es))
      passed none rest = rw none rest

      by_phase : (phase : Phase B) → e.1.phase ≡ phase → AllPairs R (released_on job es) → AllPairs R (released_on job (e ∷ es))
      by_phase (Executing k path) is rest = on k path is (k == job) refl rest
      by_phase Open is rest = passed (rw is refl) rest
      by_phase (Fetching f) is rest = passed (rw is refl) rest
      by_phase Waiting is rest = passed (rw is refl) rest
      by_phase (Parked path) is rest = passed (rw is refl) rest

  -- what is at a number among those that wait for no run of the job
  pub at_not_on : (es : List (ℕ × Requested B C I)) (t : ℕ) → IsStrictlySortedBy nat_cmp (keys_of es) → at (not_on job es) t ≡ option_filter (λ (r : Requested B C I). not (is_on job r.phase)) (at es t)
  at_not_on es t sorted = lookup-filter-values (eq_by_cmp_equiv nat_cmp_total) (λ (r : Requested B C I). not (is_on job r.phase)) t es (IsDistinct-from_sorted nat_cmp (keys_of es) sorted)

  -- another run is waited for by the same ones
  pub tickets_not_on : (i : ℕ) → i ≢ job → (es : List (ℕ × Requested B C I)) → tickets_on i (not_on job es) ≡ tickets_on i es
  tickets_not_on i ne [] = refl
  tickets_not_on i ne (e ∷ es) = go (is_on job e.1.phase) refl (is_on i e.1.phase) refl (tickets_not_on i ne es)
    where
      both : (phase : Phase B) → is_on job phase ≡ true → is_on i phase ≡ true → i ≡ job
      both (Executing k path) a b = sym (eqb-true k i b) ∙ eqb-true k job a
      both Open a b = cc
      both (Fetching f) a b = cc
      both Waiting a b = cc
      both (Parked path) a b = cc

      go : (a : Bool) → is_on job e.1.phase ≡ a → (b : Bool) → is_on i e.1.phase ≡ b → tickets_on i (not_on job es) ≡ tickets_on i es → tickets_on i (not_on job (e ∷ es)) ≡ tickets_on i (e ∷ es)
      go true a true b rest = absurd (ne (both e.1.phase a b))
      go true a false b rest = rw (a, b) rest
      go false a true b rest = rw (a, b) (ap (λ ts. e.0 ∷ ts) rest)
      go false a false b rest = rw (a, b) rest
