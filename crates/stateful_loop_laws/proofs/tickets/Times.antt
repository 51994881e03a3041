-- Numbers that are all different, by how often each one stands in their list.
use Rattle.std.proofs.Common.{◌≡◌, ◌≢◌, ◌≤◌, ◌<◌, ◌+◌, ◌==◌, ◌++◌, not, ℕ, zero, suc, Bool, true, false, cond, List, [], ◌∷◌, filter, map, All, AllPairs, refl, sym, ap, ◌∙◌, subst, arith}
use Rattle.std.proofs.lemmas.Bool.{eqb-true, eq-eqb}
use Rattle.std.proofs.lemmas.List.Elements.{All-nil, All-cons, All-head, All-tail}
use Rattle.std.proofs.lemmas.List.Kept.{AllPairs-cons}
pub use Rattle.stateful_loop_laws.specs.Times.{times}

-- no two of them are equal
abbrev pub AreApart : List ℕ → Type 0
AreApart us = AllPairs (λ t u. t ≢ u) us

-- in two lists, one behind the other
pub times-append : (t : ℕ) (us vs : List ℕ) → times t (us ++ vs) ≡ times t us + times t vs
times-append t [] vs = omega arith
times-append t (u ∷ us) vs = let e = times-append t us vs in omega (arith, e)

-- a number that stands nowhere in the list
pub times-none : (t : ℕ) (us : List ℕ) → All (λ u. t ≢ u) us → times t us ≡ 0
times-none t [] all = refl
times-none t (u ∷ us) all = go (u == t) refl (times-none t us (All-tail (λ v. t ≢ v) u us all))
  where
    go : (b : Bool) → (u == t) ≡ b → times t us ≡ 0 → cond (u == t) 1 0 + times t us ≡ 0
    go true same rest = absurd (All-head (λ v. t ≢ v) u us all (sym (eqb-true u t same)))
    go false other rest = rw other (omega (arith, rest))

-- which is how a number stands nowhere
pub none-times : (t : ℕ) (us : List ℕ) → times t us ≡ 0 → All (λ u. t ≢ u) us
none-times t [] none = All-nil (λ u. t ≢ u)
none-times t (u ∷ us) none = All-cons (λ v. t ≢ v) u us (λ same. other same) (none-times t us (omega (arith, none)))
  where
    other : t ≡ u → ⊥
    other same = let is : (u == t) ≡ true = eq-eqb u t (sym same) in let none_now : 1 + times t us ≡ 0 = rw is at none in omega (arith, none_now)

-- where they are apart, each one stands there once at most
pub times_below : (us : List ℕ) → AreApart us → (t : ℕ) → times t us ≤ 1
times_below [] apart t = omega arith
times_below (u ∷ us) apart t = go (u == t) refl (times_below us (λ i j d lt within. apart (suc i) (suc j) d (omega arith) (omega arith)) t)
  where
    others : All (λ v. u ≢ v) us
    others k d within = apart zero (suc k) d (omega arith) (omega arith)

    go : (b : Bool) → (u == t) ≡ b → times t us ≤ 1 → cond (u == t) 1 0 + times t us ≤ 1
    go true same rest = let none : times t us ≡ 0 = times-none t us (subst (λ n. All (λ v. n ≢ v) us) (eqb-true u t same) others) in
        rw same (omega (arith, none))
    go false other rest = rw other (omega (arith, rest))

-- and so they are apart
pub apart_by : (us : List ℕ) → ((t : ℕ) → times t us ≤ 1) → AreApart us
apart_by [] below = λ i j d lt within. let no : ⊥ = omega (arith, within) in absurd no
apart_by (u ∷ us) below = AllPairs-cons (λ t v. t ≢ v) u us (none-times u us none) (apart_by us (λ t. let b = below t in omega (arith, b)))
  where
    none : times u us ≡ 0
    none = let one : 1 + times u us ≤ 1 = rw (eq-eqb u u refl) at (below u) in omega (arith, one)

-- what stands in a list no more often than in one of different numbers
pub apart_fewer : (us vs : List ℕ) → AreApart us → ((t : ℕ) → times t vs ≤ times t us) → AreApart vs
apart_fewer us vs apart fewer = apart_by vs (λ t. let a = times_below us apart t in let b = fewer t in omega (arith, a, b))

-- a number that isn't among different ones, with them
pub apart_with : (t : ℕ) (us : List ℕ) → All (λ u. t ≢ u) us → AreApart us → AreApart (t ∷ us)
apart_with t us other apart = AllPairs-cons (λ u v. u ≢ v) t us other apart

-- the first one is none of the others
pub apart_others : (t : ℕ) (us : List ℕ) → AreApart (t ∷ us) → All (λ u. t ≢ u) us
apart_others t us apart k d within = apart zero (suc k) d (omega arith) (omega arith)

-- the others are apart
pub apart_rest : (t : ℕ) (us : List ℕ) → AreApart (t ∷ us) → AreApart us
apart_rest t us apart i j d lt within = apart (suc i) (suc j) d (omega arith) (omega arith)

-- Two lists of different numbers, where none of one is among the other.
pub apart-append : (us vs : List ℕ) → AreApart us → AreApart vs → ((t : ℕ) → 0 < times t us → times t vs ≡ 0) → AreApart (us ++ vs)
apart-append us vs a b none = apart_by (us ++ vs) (λ t. rw (times-append t us vs) (one t (times t us) refl))
  where
    one : (t n : ℕ) → times t us ≡ n → n + times t vs ≤ 1
    one t zero is = let b_below = times_below vs b t in omega (arith, b_below)
    one t (suc n) is = let a_below = times_below us a t in let no = none t (omega (arith, is)) in omega (arith, is, a_below, no)

module _ {X : Type 0} (f : X → ℕ) where
  -- where some are left out
  pub times-filter : (keep : X → Bool) (xs : List X) (t : ℕ) → times t (map f (filter keep xs)) ≤ times t (map f xs)
  times-filter keep [] t = omega arith
  times-filter keep (x ∷ xs) t = go (keep x) refl (times-filter keep xs t)
    where
      go : (b : Bool) → keep x ≡ b → times t (map f (filter keep xs)) ≤ times t (map f xs)
          → times t (map f (filter keep (x ∷ xs))) ≤ times t (map f (x ∷ xs))
      go true is rest = rw is (omega (arith, rest))
      go false is rest = rw is (omega (arith, rest))

  -- those that are kept, with the others
  pub times-parts : (keep leave : X → Bool) → ((x : X) → leave x ≡ not (keep x)) → (xs : List X) (t : ℕ)
      → times t (map f (filter keep xs)) + times t (map f (filter leave xs)) ≡ times t (map f xs)
  times-parts keep leave other [] t = refl
  times-parts keep leave other (x ∷ xs) t = go (keep x) refl (times-parts keep leave other xs t)
    where
      go : (b : Bool) → keep x ≡ b → times t (map f (filter keep xs)) + times t (map f (filter leave xs)) ≡ times t (map f xs)
          → times t (map f (filter keep (x ∷ xs))) + times t (map f (filter leave (x ∷ xs))) ≡ times t (map f (x ∷ xs))
      go true is rest = let off : leave x ≡ false = other x ∙ ap not is in rw (is, off) (omega (arith, rest))
      go false is rest = let on : leave x ≡ true = other x ∙ ap not is in rw (is, on) (omega (arith, rest))
