-- Numbers in order, and lists with one place changed, or every one.
use Rattle.std.proofs.Common.{◌≡◌, ◌≢◌, ℕ, ◌+◌, ◌<◌, suc, zero, Bool, true, false, ◌⊎◌, inl, inr, ⊎_elim, Option, Some, None, List, [], ◌∷◌, map, length, get_or, set, take, drop, ◌++◌, All, refl, sym, ap, subst, ◌∙◌, arith, length-set}
use Rattle.std.specs.Prelude.{slice_get, cond, nat_lt, ◌==◌}
use Rattle.std.specs.List.{Any}
use Rattle.std.specs.Option.{option_map}
use Rattle.std.specs.Ordering.{is_lt, nat_cmp}
use Rattle.std.specs.declared.cmp.Ordering.TheVariants.{Less, Equal, Greater}
use Rattle.std.proofs.lemmas.Bool.{cases_eq, cases_Bool, ltb-true}
use Rattle.std.proofs.lemmas.List.{length-map, get_or-map, get_or-set_other}
use Rattle.std.proofs.lemmas.List.{get_or_default}
use Rattle.std.proofs.lemmas.List.Edits.{map_over_more}
use Rattle.std.proofs.lemmas.List.Elements.{All-nil, All-cons}
use Rattle.std.proofs.lemmas.List.Quantifiers.{any-set}
use Rattle.std.proofs.lemmas.Option.{slice_get_within, get_or_from_slice_get, none-some, same_Some, slice_get-map}

module _ {X : Type 0} where
  any_here : (P : X → Type 0) (x : X) (xs : List X) → P x → Any P (x ∷ xs)
  any_here P x xs p = (0, x, omega arith, refl, p)

  any_there : (P : X → Type 0) (x : X) (xs : List X) → Any P xs → Any P (x ∷ xs)
  any_there P x xs (k, y, lt, is, p) = (suc k, y, omega arith, is, p)

  -- every one passes, or one fails
  pub all_or_any : (p : X → Bool) (xs : List X) → All (λ x. p x ≡ true) xs ⊎ Any (λ x. p x ≡ false) xs
  all_or_any p [] = inl (All-nil (λ x. p x ≡ true))
  all_or_any p (x ∷ xs) = ⊎_elim
      (λ (here : p x ≡ true). ⊎_elim
      (λ (rest : All (λ x. p x ≡ true) xs). inl (All-cons (λ x. p x ≡ true) x xs here rest))
      (λ (rest : Any (λ x. p x ≡ false) xs). inr (any_there (λ x. p x ≡ false) x xs rest))
      (all_or_any p xs))
      (λ (here : p x ≡ false). inr (any_here (λ x. p x ≡ false) x xs here))
      (cases_Bool (p x))

  -- not every one passes, so one fails
  pub any_fails : (p : X → Bool) (xs : List X) → (All (λ x. p x ≡ true) xs → ⊥) → Any (λ x. p x ≡ false) xs
  any_fails p xs none = ⊎_elim (λ (all : All (λ x. p x ≡ true) xs). absurd (none all)) (λ (any : Any (λ x. p x ≡ false) xs). any) (all_or_any p xs)

  -- one fails, so not every one passes
  pub none_passes : (p : X → Bool) (xs : List X) → Any (λ x. p x ≡ false) xs → All (λ x. p x ≡ true) xs → ⊥
  none_passes p xs (k, x, lt, is, fails) all = let passes : p x ≡ true = subst (λ y. p y ≡ true) is (all k x lt) in cc

  -- where one place changes, one that had a property still has one that has it, if the change keeps it
  pub any_changed : (P : X → Type 0) (xs : List X) (i : ℕ) (a b : X) → slice_get xs i ≡ Some b → (P b → P a) → Any P xs → Any P (set xs i a)
  any_changed P xs i a b was keeps (k, x, lt, is, p) = ⊎_elim
      (λ (same : k ≡ i).
      let here : get_or xs k x ≡ b = ap (λ j. get_or xs j x) same ∙ get_or_from_slice_get xs i b x was in
      let had : P b = subst P (sym is ∙ here) p in
      any-set P xs i a (slice_get_within xs i b was) (keeps had))
      (λ (other : k ≡ i → ⊥). (k, x, rw length-set lt, get_or-set_other xs i k a x other ∙ is, p))
      (cases_eq k i)

  -- the place that was changed, and each other one
  pub changed_here : (xs : List X) (i : ℕ) (a b : X) → slice_get xs i ≡ Some b → slice_get (set xs i a) i ≡ Some a
  changed_here [] i a b was = absurd (cc)
  changed_here (x ∷ xs) zero a b was = refl
  changed_here (x ∷ xs) (suc i) a b was = changed_here xs i a b was

  pub changed_elsewhere : (xs : List X) (i j : ℕ) (a : X) → j ≢ i → slice_get (set xs i a) j ≡ slice_get xs j
  changed_elsewhere [] i j a other = refl
  changed_elsewhere (x ∷ xs) zero zero a other = absurd (other refl)
  changed_elsewhere (x ∷ xs) zero (suc j) a other = refl
  changed_elsewhere (x ∷ xs) (suc i) zero a other = refl
  changed_elsewhere (x ∷ xs) (suc i) (suc j) a other = changed_elsewhere xs i j a (λ e. other (ap suc e))

pub any_map : {X Y : Type 0} (P : Y → Type 0) (f : X → Y) (xs : List X) → Any (λ x. P (f x)) xs → Any P (map f xs)
any_map P f xs (k, x, lt, is, p) = (k, f x, rw length-map lt, get_or-map f xs k x (f x) lt ∙ ap f is, p)

-- one place more is changed, of those that are changed in order
pub changed_more : {X : Type 0} (f : X → X) (xs ys : List X) (i : ℕ) (d : X) → i < length xs → length ys ≡ length xs
    → ys ≡ map f (take i xs) ++ drop i xs
    → set ys i (f (get_or ys i d)) ≡ map f (take (i + 1) xs) ++ drop (i + 1) xs
changed_more f xs ys i d lt long so_far =
    let within : i < length ys = omega arith in
    map_over_more f xs ys i (get_or ys i d) lt so_far (get_or_default ys i d (get_or ys i d) within)

pub lt_from_is_lt : (a b : ℕ) → is_lt (nat_cmp a b) ≡ true → a < b
lt_from_is_lt a b h = go (nat_lt a b) (a == b) refl h
  where
    go : (t u : Bool) → nat_lt a b ≡ t → is_lt (cond t Less (cond u Equal Greater)) ≡ true → a < b
    go true u e h = ltb-true a b e
    go false true e h = absurd (cc)
    go false false e h = absurd (cc)

-- what stands at a place of a list that was changed at every one
pub at_mapped : {X Y : Type 0} (f : X → Y) (xs : List X) (i : ℕ) (y : Y) → slice_get (map f xs) i ≡ Some y → (x : X) × (slice_get xs i ≡ Some x) × (f x ≡ y)
at_mapped {X = X} f xs i y at = go (slice_get xs i) refl (sym (slice_get-map f xs i) ∙ at)
  where
    go : (o : Option X) → slice_get xs i ≡ o → option_map f o ≡ Some y → (x : X) × (slice_get xs i ≡ Some x) × (f x ≡ y)
    go None is e = absurd (none-some y e)
    go (Some x) is e = (x, is, same_Some (f x) y e)

-- what stands at a place of a list that was changed at one
pub at_changed : {X : Type 0} (xs : List X) (i j : ℕ) (a b x : X) → slice_get xs i ≡ Some b → slice_get (set xs i a) j ≡ Some x
    → ((j ≡ i) × (a ≡ x)) ⊎ (slice_get xs j ≡ Some x)
at_changed xs i j a b x was at = ⊎_elim
    (λ (same : j ≡ i). inl (same, same_Some a x (sym (changed_here xs i a b was) ∙ subst (λ k. slice_get (set xs i a) k ≡ Some x) same at)))
    (λ (other : j ≡ i → ⊥). inr (sym (changed_elsewhere xs i j a other) ∙ at))
    (cases_eq j i)
