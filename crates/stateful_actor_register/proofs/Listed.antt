-- The numbers of the entries with a value, in a map's order.
use Rattle.std.proofs.Common.{◌≡◌, ℕ, ◌==◌, Bool, true, false, cond, ◌&&◌, Option, Some, None, List, [], ◌∷◌, refl, sym, ap, ◌∙◌, eqb-true, arith}
use Rattle.std.specs.Option.{is_some}
use Rattle.std.specs.List.{filter, list_any, AllByRecursion}
use Rattle.std.specs.List.Sorted.{IsStrictlySortedBy}
use Rattle.std.specs.Ordering.{nat_cmp}
use Rattle.std.specs.declared.cmp.Ordering.TheVariants.{Less}
use Rattle.std.specs.BTreeMap.{is_at}
use Rattle.std.specs.Map.{lookup, keys_of}
use Rattle.std.proofs.lemmas.Bool.Decides.{nat_tests}
use Rattle.std.proofs.lemmas.Cmp.{nat_cmp_total, eq_by_cmp_equiv}
use Rattle.std.proofs.lemmas.Map.{lookup-none}
use Rattle.std.proofs.lemmas.Map.Keys.{sorted_tail, IsDistinct-from_sorted, IsStrictlyIncreasing-from_sorted}
use Rattle.std.proofs.lemmas.Map.Entries.{none_past_head}
use Rattle.std.proofs.lemmas.Map.Views.{any-filter_same}
use Rattle.std.proofs.lemmas.List.Kept.{IsStrictlyIncreasing-filter}
use Rattle.stateful_actor_register.specs.Live.{value_of, IsListOf}

-- the test of a number
is_at_number : (q k : ℕ) → is_at (nat_cmp q) k ≡ (q == k)
is_at_number q k = grind (arith, nat_tests)

module _ {V : Type 0} where
  abbrev live_entry : ℕ × Option V → Bool
  live_entry e = is_some e.1

  -- the numbers of the entries with a value
  abbrev pub numbers_of : List (ℕ × Option V) → List ℕ
  numbers_of es = keys_of (filter live_entry es)

  below : (k : ℕ) (es : List (ℕ × Option V)) → AllByRecursion (λ y. nat_cmp k y ≡ Less) (keys_of es) → AllByRecursion (λ y. nat_cmp k y ≡ Less) (numbers_of es)
  below k [] all = tt
  below k (e ∷ es) all = go (live_entry e) (below k es all.1)
    where
      go : (b : Bool) → AllByRecursion (λ y. nat_cmp k y ≡ Less) (numbers_of es) → AllByRecursion (λ y. nat_cmp k y ≡ Less) (keys_of (cond b (e ∷ filter live_entry es) (filter live_entry es)))
      go true rest = (all.0, rest)
      go false rest = rest

  sorted : (es : List (ℕ × Option V)) → IsStrictlySortedBy nat_cmp (keys_of es) → IsStrictlySortedBy nat_cmp (numbers_of es)
  unfolding IsStrictlySortedBy
  sorted [] all = tt
  sorted (e ∷ es) all = go (live_entry e) (sorted es all.1)
    where
      go : (b : Bool) → IsStrictlySortedBy nat_cmp (numbers_of es) → IsStrictlySortedBy nat_cmp (keys_of (cond b (e ∷ filter live_entry es) (filter live_entry es)))
      go true rest = (below e.0 es all.0, rest)
      go false rest = rest

  -- a number is among them exactly where its value is found
  found : (es : List (ℕ × Option V)) (q : ℕ) → IsStrictlySortedBy nat_cmp (keys_of es) → list_any (λ n. q == n) (numbers_of es) ≡ is_some (value_of (lookup (is_at (nat_cmp q)) es))
  found [] q all = refl
  found (e ∷ es) q all = go e.1 (q == e.0) (is_at_number q e.0) refl (found es q (sorted_tail nat_cmp e.0 (keys_of es) all))
    where
      IsFound : Type 0
      IsFound = list_any (λ n. q == n) (numbers_of es) ≡ is_some (value_of (lookup (is_at (nat_cmp q)) es))

      gap : IsFound → (q == e.0) ≡ true → list_any (λ n. q == n) (numbers_of es) ≡ false
      gap rest same =
          rest
          ∙ ap (λ (v : Option (Option V)). is_some (value_of v))
          (lookup-none (is_at (nat_cmp q)) es (none_past_head (eq_by_cmp_equiv nat_cmp_total) q e es (IsDistinct-from_sorted nat_cmp (keys_of (e ∷ es)) all) (is_at_number q e.0 ∙ same)))

      go : (v : Option V) (b : Bool) → is_at (nat_cmp q) e.0 ≡ b → (q == e.0) ≡ b → IsFound
          → list_any (λ n. q == n) (keys_of (cond (is_some v) (e ∷ filter live_entry es) (filter live_entry es))) ≡ is_some (value_of (cond (is_at (nat_cmp q) e.0) (Some v) (lookup (is_at (nat_cmp q)) es)))
      go None true at same rest = rw at (gap rest same)
      go None false at same rest = rw at rest
      go (Some v) true at same rest = rw (at, same) refl
      go (Some v) false at same rest = rw (at, same) rest

  -- they are what is live, in ascending order
  pub IsListOf-numbers : (es : List (ℕ × Option V)) → IsStrictlySortedBy nat_cmp (keys_of es) → IsListOf (λ q. is_some (value_of (lookup (is_at (nat_cmp q)) es))) (numbers_of es)
  IsListOf-numbers es all = record {
    ascending = IsStrictlyIncreasing-from_sorted (numbers_of es) (sorted es all);
    each = λ q. found es q all;
  }

-- those of them that pass another test too
pub IsListOf-filter : (test other : ℕ → Bool) (ns : List ℕ) → IsListOf test ns → IsListOf (λ k. test k && other k) (filter other ns)
IsListOf-filter test other ns all = record {
  ascending = IsStrictlyIncreasing-filter other ns all.ascending;
  each = λ k. any-filter_same (λ n. k == n) other (other k) (λ n same. ap other (sym (eqb-true k n same))) ns ∙ ap (λ b. other k && b) (all.each k) ∙ swapped (other k) (test k);
}
  where
    swapped : (a b : Bool) → a && b ≡ b && a
    swapped true true = refl
    swapped true false = refl
    swapped false true = refl
    swapped false false = refl

-- the same numbers by a test that answers alike
pub IsListOf-same : (test other : ℕ → Bool) (ns : List ℕ) → ((k : ℕ) → test k ≡ other k) → IsListOf test ns → IsListOf other ns
IsListOf-same test other ns same all = record { ascending = all.ascending; each = λ k. all.each k ∙ same k }
