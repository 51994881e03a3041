-- What counts and members of lists are after a filter, an insertion or a map.
use Rattle.std.proofs.Common.{◌≡◌, ℕ, ◌+◌, ◌<◌, ◌≤◌, Bool, true, false, not, cond, is_some, Some, List, [], ◌∷◌, ◌++◌, map, filter, length, All, Contains, sum_by, count_by, Ordering, Less, Equal, Greater, is_eq, refl, sym, ap, subst, ◌∙◌, arith}
use Rattle.std.specs.List.{list_any}
use Rattle.std.specs.Map.{lookup}
use Rattle.std.specs.Ordering.{match_ordering}
use Rattle.std.specs.BTreeMap.{is_at, insert_entry}
use Rattle.std.proofs.lemmas.Bool.{not-true, or_from}
use Rattle.std.proofs.lemmas.List.Sums.{sum_by-cons, sum_by-append, length-filter}
use Rattle.std.proofs.lemmas.List.Filters.{sum_by-filter_both, length-filter_both}
use Rattle.std.proofs.lemmas.List.Elements.{All-head, All-tail, All-cons, All-filter, All-contains, All-contains_itself, filter_passes}

-- ---- members

pub Contains-filter : {X : Type 0} (p : X → Bool) (xs : List X) (x : X) → Contains (filter p xs) x → Contains xs x
Contains-filter p xs x at = All-contains (Contains xs) (filter p xs) x (All-filter p (Contains xs) xs (All-contains_itself xs)) at

pub passes : {X : Type 0} (p : X → Bool) (xs : List X) (x : X) → Contains (filter p xs) x → p x ≡ true
passes p xs x at = All-contains (λ y. p y ≡ true) (filter p xs) x (filter_passes p xs) at

-- where each element passes, a filter keeps all
pub filter_all : {X : Type 0} (p : X → Bool) (xs : List X) → All (λ x. p x ≡ true) xs → filter p xs ≡ xs
filter_all p [] all = refl
filter_all p (x ∷ xs) all =
    let here : p x ≡ true = All-head (λ y. p y ≡ true) x xs all in
    let rest : filter p xs ≡ xs = filter_all p xs (All-tail (λ y. p y ≡ true) x xs all) in
    rw here (ap (λ ys. x ∷ ys) rest)

-- what holds of the images holds of what they are images of
pub All-from_map : {X Y : Type 0} (P : Y → Type 0) (f : X → Y) (xs : List X) → All P (map f xs) → All (λ x. P (f x)) xs
All-from_map P f [] all = λ k d lt. absurd (omega arith)
All-from_map P f (x ∷ xs) all = All-cons (λ y. P (f y)) x xs (All-head P (f x) (map f xs) all) (All-from_map P f xs (All-tail P (f x) (map f xs) all))

-- ---- counts

-- a filter leaves no more of any kind
pub count_by-filter-le : {X : Type 0} (p q : X → Bool) (xs : List X) → count_by p (filter q xs) ≤ count_by p xs
count_by-filter-le p q xs = omega (arith, sum_by-filter_both q (λ x. not (q x)) (λ x. refl) (λ x. cond (p x) 1 0) xs)

-- what passes and what doesn't make up the list
pub length_without : {X : Type 0} (p : X → Bool) (xs : List X) → count_by p xs + length (filter (λ x. not (p x)) xs) ≡ length xs
length_without p xs = omega (arith, length-filter p xs, length-filter_both p (λ x. not (p x)) (λ x. refl) xs)

-- where no key passes, none is counted
pub count_none : {K X : Type 0} (test : K → Bool) (es : List (K × X)) → is_some (lookup test es) ≡ false → count_by (λ e. test e.0) es ≡ 0
count_none test [] none = refl
count_none {K} {X} test (e ∷ es) none = sum_by-cons (λ d. cond (test d.0) 1 0) e es ∙ go (test e.0) none (count_none test es)
  where
    go : (b : Bool) → is_some (cond b (Some e.1) (lookup test es)) ≡ false → (is_some (lookup test es) ≡ false → count_by (λ e. test e.0) es ≡ 0) → cond b 1 0 + count_by (λ e. test e.0) es ≡ 0
    go true h rest = cc
    go false h rest = omega (arith, rest h)

-- ---- insertion of a new key

-- ys is xs with x at some place
pub record Gains {X : Type 0} (xs ys : List X) (x : X) : Type 0 where
  pub front : List X
  pub back : List X
  pub was : xs ≡ front ++ back
  pub is : ys ≡ front ++ x ∷ back

pub gains_from_insert : {K X : Type 0} (cmp : K → K → Ordering) (es : List (K × X)) (k : K) (v : X) → is_some (lookup (is_at (cmp k)) es) ≡ false → Gains es (insert_entry cmp es k v) (k, v)
gains_from_insert cmp [] k v new = record { front = []; back = []; was = refl; is = refl }
gains_from_insert cmp (e ∷ es) k v new = go (cmp k e.0) new (gains_from_insert cmp es k v)
  where
    go : (o : Ordering) → is_some (cond (is_eq o) (Some e.1) (lookup (is_at (cmp k)) es)) ≡ false → (is_some (lookup (is_at (cmp k)) es) ≡ false → Gains es (insert_entry cmp es k v) (k, v))
        → Gains (e ∷ es) (match_ordering o ((k, v) ∷ e ∷ es) ((e.0, v) ∷ es) (e ∷ insert_entry cmp es k v)) (k, v)
    go Less h rest = record { front = []; back = e ∷ es; was = refl; is = refl }
    go Equal h rest = cc
    go Greater h rest = let g = rest h in record { front = e ∷ g.front; back = g.back; was = ap (λ ds. e ∷ ds) g.was; is = ap (λ ds. e ∷ ds) g.is }

-- what holds of all elements and of one more holds of all where that one stands among them
All-amid : {X : Type 0} (P : X → Type 0) (front back : List X) (x : X) → P x → All P (front ++ back) → All P (front ++ x ∷ back)
All-amid P [] back x here all = All-cons P x back here all
All-amid P (y ∷ front) back x here all = All-cons P y (front ++ x ∷ back) (All-head P y (front ++ back) all) (All-amid P front back x here (All-tail P y (front ++ back) all))

module _ {X : Type 0} {xs ys : List X} {x : X} (gains : Gains xs ys x) where
  pub All-gains : (P : X → Type 0) → P x → All P xs → All P ys
  All-gains P here all = subst (All P) (sym gains.is) (All-amid P gains.front gains.back x here (subst (All P) gains.was all))

  pub count_by_gains : (p : X → Bool) → count_by p ys ≡ cond (p x) 1 0 + count_by p xs
  count_by_gains p =
      let f : X → ℕ = λ y. cond (p y) 1 0 in
      let new = ap (sum_by f) gains.is ∙ sum_by-append f gains.front (x ∷ gains.back) in
      let old = ap (sum_by f) gains.was ∙ sum_by-append f gains.front gains.back in
      omega (arith, new, old, sum_by-cons f x gains.back)

-- ---- more keys than there are liars

-- Of entries with different keys, more than there are liars, one's key is no liar's.
pub no_liar : {K X : Type 0} (eq : K → K → Bool) (liars : List K) (es : List (K × X)) → ((l : K) → count_by (λ e. eq l e.0) es ≤ 1) → length liars < length es
    → (k : K) × (x : X) × Contains es (k, x) × (list_any (λ l. eq l k) liars ≡ false)
no_liar eq [] [] apart more = absurd (omega arith)
no_liar eq [] (e ∷ es) apart more = (e.0, e.1, (0, omega arith, refl), refl)
no_liar {K} {X} eq (l ∷ liars) es apart more =
    let is : K × X → Bool = λ e. eq l e.0 in
    let others = filter (λ e. not (is e)) es in
    let long : length liars < length others = omega (arith, apart l, length_without is es) in
    let found = no_liar eq liars others (λ m. omega (arith, apart m, count_by-filter-le (λ (e : K × X). eq m e.0) (λ e. not (is e)) es)) long in
    let other : eq l found.0 ≡ false = not-true _ (passes (λ e. not (is e)) es (found.0, found.1) found.2) in
    (found.0, found.1, Contains-filter (λ e. not (is e)) es (found.0, found.1) found.2, or_from _ _ other found.3)
