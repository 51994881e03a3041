-- A list by ascending heights, in which equal heights keep their order: a stable sort makes it, and it is the only one.
use Rattle.std.proofs.Common.{◌≡◌, ℕ, ◌<◌, ◌≤◌, ◌==◌, Bool, true, false, cond, not, ◌&&◌, ⊎_elim, List, [], ◌∷◌, filter, All, refl, sym, ap, subst, ◌∙◌, arith}
use Rattle.std.specs.Prelude.{nat_lt}
use Rattle.std.specs.Ordering.{is_lt, nat_cmp}
use Rattle.std.specs.declared.cmp.Ordering.TheVariants.{Less, Equal, Greater}
use Rattle.std.specs.Fn.{Called, ComputesKey}
use Rattle.std.specs.List.Sorted.{IsNonDecreasingBy, IsPermutation, IsSortedByKey, IsStableByKey, ties}
use Rattle.std.proofs.lemmas.Bool.{cases_lt, eq-eqb, ne_eqb, lt-ltb, le-ltb}
use Rattle.std.proofs.lemmas.Fn.{always_returns_same}
use Rattle.std.proofs.lemmas.List.Elements.{All-head, All-tail, filter_agree}
use Rattle.std.proofs.lemmas.List.Sorted.{IsNonDecreasingBy-from_sort, IsNonDecreasingBy-drop}
use denote.Param.Members.{Mut}
use denote.Ref.{Bor}
use Rattle.stateful_base.specs.Names.{Header, Named}
use Rattle.stateful_sync.specs.Classify.{height_at, IsByHeight}

is_lt_is : (a b : ℕ) → is_lt (nat_cmp a b) ≡ nat_lt a b
is_lt_is a b = go (nat_lt a b) (a == b)
  where
    go : (t u : Bool) → is_lt (cond t Less (cond u Equal Greater)) ≡ t
    go true u = refl
    go false true = refl
    go false false = refl

neither_less : (a b : ℕ) → (not (nat_lt a b) && not (nat_lt b a)) ≡ (b == a)
neither_less a b = ⊎_elim
    (λ (less : a < b). rw (lt-ltb a b less, ne_eqb b a (λ e. omega arith)) refl)
    (λ (no_less : b ≤ a). ⊎_elim
    (λ (greater : b < a). rw (le-ltb a b no_less, lt-ltb b a greater, ne_eqb b a (λ e. omega arith)) refl)
    (λ (no_greater : a ≤ b). rw (le-ltb a b no_less, le-ltb b a no_greater, eq-eqb b a (omega arith)) refl)
    (cases_lt b a))
    (cases_lt a b)

module _ {X : Type 0} (n : X → ℕ) where
  tie_is : (x y : X) → ties (λ a b. is_lt (nat_cmp (n a) (n b))) x y ≡ (n y == n x)
  tie_is x y = rw (is_lt_is (n x) (n y), is_lt_is (n y) (n x)) (neither_less (n x) (n y))

  -- what a stable sort by a number ensures
  pub stable_by : (xs ys : List X) → IsStableByKey n nat_cmp xs ys → (one : X) → filter (λ other. n other == n one) ys ≡ filter (λ other. n other == n one) xs
  stable_by xs ys stable one =
      let lt = λ (a b : X). is_lt (nat_cmp (n a) (n b)) in
      sym (filter_agree (ties lt one) (λ other. n other == n one) (tie_is one) ys)
      ∙ stable one
      ∙ filter_agree (ties lt one) (λ other. n other == n one) (tie_is one) xs

  -- the first that passes a test is no less than what none is less than
  first_no_less : (p : X → Bool) (m : ℕ) (ys : List X) (x : X) (rest : List X) → All (λ y. m ≤ n y) ys → filter p ys ≡ x ∷ rest → m ≤ n x
  first_no_less p m [] x rest all e = absurd (cc)
  first_no_less p m (y ∷ ys) x rest all e = go (p y) e (first_no_less p m ys x rest (All-tail (λ y. m ≤ n y) y ys all))
    where
      go : (b : Bool) → cond b (y ∷ filter p ys) (filter p ys) ≡ x ∷ rest → (filter p ys ≡ x ∷ rest → m ≤ n x) → m ≤ n x
      go true e behind = let same : y ≡ x = cc in subst (λ z. m ≤ n z) same (All-head (λ y. m ≤ n y) y ys all)
      go false e behind = behind e

  least_first : (y : X) (ys : List X) → IsNonDecreasingBy n (y ∷ ys) → All (λ z. n y ≤ n z) (y ∷ ys)
  least_first y ys ascending k d lt = ascending 0 k d (omega arith) lt

  same_test : (x : X) → (n x == n x) ≡ true
  same_test x = eq-eqb (n x) (n x) refl

  -- two lists that ascend, with the same in the same order at each number, are the same
  pub same_by : (xs ys : List X) → IsNonDecreasingBy n xs → IsNonDecreasingBy n ys
      → ((one : X) → filter (λ other. n other == n one) xs ≡ filter (λ other. n other == n one) ys) → xs ≡ ys
  same_by [] [] up up' same = refl
  same_by [] (y ∷ ys) up up' same = let e = rw (same_test y) at (same y) in absurd (cc)
  same_by (x ∷ xs) [] up up' same = let e = rw (same_test x) at (same x) in absurd (cc)
  same_by (x ∷ xs) (y ∷ ys) up up' same =
      let from_x = rw (same_test x) at (same x) in
      let from_y = rw (same_test y) at (same y) in
      let y_least : n y ≤ n x = first_no_less (λ other. n other == n x) (n y) (y ∷ ys) x (filter (λ other. n other == n x) xs) (least_first y ys up') (sym from_x) in
      let x_least : n x ≤ n y = first_no_less (λ other. n other == n y) (n x) (x ∷ xs) y (filter (λ other. n other == n y) ys) (least_first x xs up) from_y in
      let level : (n y == n x) ≡ true = eq-eqb (n y) (n x) (omega arith) in
      let heads = rw level at from_x in
      let first : x ≡ y = cc in
      let rest : (one : X) → filter (λ other. n other == n one) xs ≡ filter (λ other. n other == n one) ys =
      λ one. tails (λ other. n other == n one) first (same one) in
      ap (λ w. w ∷ xs) first ∙ ap (λ w. y ∷ w) (same_by xs ys (IsNonDecreasingBy-drop n 1 (x ∷ xs) up) (IsNonDecreasingBy-drop n 1 (y ∷ ys) up') rest)
    where
      tails : (p : X → Bool) → x ≡ y → filter p (x ∷ xs) ≡ filter p (y ∷ ys) → filter p xs ≡ filter p ys
      tails p first e = go (p y) (subst (λ w. filter p (w ∷ xs) ≡ filter p (y ∷ ys)) first e)
        where
          go : (b : Bool) → cond b (y ∷ filter p xs) (filter p xs) ≡ cond b (y ∷ filter p ys) (filter p ys) → filter p xs ≡ filter p ys
          go true e = cc
          go false e = e

-- what a stable sort by heights makes
pub by_height : {B : Type 0} (header : Header B) {F : Type 0} {g : Mut F (Bor (ℕ × Named B) × Unit {0}) ℕ} {f : F} (given sorted : List (ℕ × Named B))
    → IsPermutation given sorted
    → ((key : ℕ × Named B → ℕ) → ComputesKey g key f → IsSortedByKey key nat_cmp sorted)
    → ((key : ℕ × Named B → ℕ) → ComputesKey g key f → IsStableByKey key nat_cmp given sorted)
    → ((a : Bor (ℕ × Named B) × Unit {0}) (r : ℕ) (f' : F) → Called g f a r f' → (r ≡ height_at header a.0.now) × (f' ≡ f))
    → IsByHeight header given sorted
by_height header {g = g} {f = f} given sorted same up stable called =
    let computes = always_returns_same g (λ a r. r ≡ height_at header a.0.now) f called in
    record {
      same = same;
      ascending = IsNonDecreasingBy-from_sort (height_at header) sorted (up (height_at header) computes);
      in_order = stable_by (height_at header) given sorted (stable (height_at header) computes);
    }

-- there is one such list
pub one_by_height : {B : Type 0} (header : Header B) (given xs ys : List (ℕ × Named B)) → IsByHeight header given xs → IsByHeight header given ys → xs ≡ ys
one_by_height header given xs ys one other =
    same_by (height_at header) xs ys one.ascending other.ascending (λ r. one.in_order r ∙ sym (other.in_order r))
