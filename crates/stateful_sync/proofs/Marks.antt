-- Which updates are marked, by the numbers that were named.
use Rattle.std.proofs.Common.{◌≡◌, ℕ, ◌<◌, zero, suc, Bool, true, false, ◌⊎◌, ⊎_elim, inl, inr, Some, None, List, [], ◌∷◌, ◌++◌, length, set, All, Contains, refl, sym, ap, subst, ◌∙◌, arith, length-set}
use Rattle.std.specs.Prelude.{slice_get, unwrap_or}
use Rattle.std.proofs.lemmas.List.{length_push}
use Rattle.std.proofs.lemmas.List.Elements.{All-weaker, All-push, All-contains, Contains-push, Contains-append_left, Contains-push_cases}
use Rattle.std.proofs.lemmas.Option.{none-some, same_Some, slice_get_within}
use Rattle.stateful_sync.proofs.Lists.{at_changed, changed_here}

-- what stands at a place of a list with one element more
pub at_pushed : {X : Type 0} (xs : List X) (y x : X) (n : ℕ) → slice_get (xs ++ y ∷ []) n ≡ Some x → (slice_get xs n ≡ Some x) ⊎ ((n ≡ length xs) × (y ≡ x))
at_pushed [] y x zero at = inr (refl, same_Some y x at)
at_pushed [] y x (suc n) at = absurd (none-some x at)
at_pushed (z ∷ xs) y x zero at = inl at
at_pushed (z ∷ xs) y x (suc n) at = ⊎_elim
    (λ (there : slice_get xs n ≡ Some x). inl there)
    (λ (last : (n ≡ length xs) × (y ≡ x)). inr (ap suc last.0, last.1))
    (at_pushed xs y x n at)

-- the first, of one more
pub first_pushed : {X : Type 0} (xs : List X) (y : X) → slice_get (xs ++ y ∷ []) 0 ≡ Some (unwrap_or (slice_get xs 0) y)
first_pushed [] y = refl
first_pushed (x ∷ xs) y = refl

pub none_first : {X : Type 0} (xs : List X) → slice_get xs 0 ≡ None → xs ≡ []
none_first [] e = refl
none_first (x ∷ xs) e = absurd (cc)

module _ {X : Type 0} (flag : X → Bool) where
  -- exactly those of these numbers are marked
  pub record Marks (xs : List X) (numbers : List ℕ) : Type 0 where
    pub within : All (λ n. n < length xs) numbers
    pub named : (n : ℕ) (x : X) → slice_get xs n ≡ Some x → flag x ≡ true → Contains numbers n
    pub set_to : (n : ℕ) (x : X) → slice_get xs n ≡ Some x → Contains numbers n → flag x ≡ true

  -- with one that isn't marked
  pub marks_more : (xs : List X) (numbers : List ℕ) (y : X) → flag y ≡ false → Marks xs numbers → Marks (xs ++ y ∷ []) numbers
  marks_more xs numbers y unmarked marks = record {
    within = All-weaker (λ n. n < length xs) (λ n. n < length (xs ++ y ∷ [])) (λ n lt. let long = length_push xs y in omega arith) numbers marks.within;
    named = λ n x at is. ⊎_elim
        (λ (there : slice_get xs n ≡ Some x). marks.named n x there is)
        (λ (last : (n ≡ length xs) × (y ≡ x)). let e : flag x ≡ false = subst (λ z. flag z ≡ false) last.1 unmarked in absurd (cc))
        (at_pushed xs y x n at);
    set_to = λ n x at contains. ⊎_elim
        (λ (there : slice_get xs n ≡ Some x). marks.set_to n x there contains)
        (λ (last : (n ≡ length xs) × (y ≡ x)). let lt = All-contains (λ n. n < length xs) numbers n marks.within contains in absurd (omega arith))
        (at_pushed xs y x n at);
  }

  module _ (xs : List X) (numbers : List ℕ) (i : ℕ) (a b : X) (was : slice_get xs i ≡ Some b) (marks : Marks xs numbers) where
    still_within : All (λ n. n < length (set xs i a)) numbers
    still_within = All-weaker (λ n. n < length xs) (λ n. n < length (set xs i a)) (λ n lt. rw length-set lt) numbers marks.within

    -- one is changed, and its mark isn't
    pub marks_kept : flag a ≡ flag b → Marks (set xs i a) numbers
    marks_kept same = record {
      within = still_within;
      named = λ n x at is. ⊎_elim
          (λ (here : (n ≡ i) × (a ≡ x)).
          marks.named n b (ap (slice_get xs) here.0 ∙ was) (sym same ∙ ap flag here.1 ∙ is))
          (λ (there : slice_get xs n ≡ Some x). marks.named n x there is)
          (at_changed xs i n a b x was at);
      set_to = λ n x at contains. ⊎_elim
          (λ (here : (n ≡ i) × (a ≡ x)).
          ap flag (sym here.1) ∙ same ∙ marks.set_to n b (ap (slice_get xs) here.0 ∙ was) contains)
          (λ (there : slice_get xs n ≡ Some x). marks.set_to n x there contains)
          (at_changed xs i n a b x was at);
    }

    -- one is marked
    pub marks_named : flag a ≡ true → Marks (set xs i a) (numbers ++ i ∷ [])
    marks_named marked = record {
      within = All-push (λ n. n < length (set xs i a)) numbers i still_within (rw length-set (slice_get_within xs i b was));
      named = λ n x at is. ⊎_elim
          (λ (here : (n ≡ i) × (a ≡ x)). subst (Contains (numbers ++ i ∷ [])) (sym here.0) (Contains-push numbers i))
          (λ (there : slice_get xs n ≡ Some x). Contains-append_left numbers (i ∷ []) n (marks.named n x there is))
          (at_changed xs i n a b x was at);
      set_to = λ n x at contains. ⊎_elim
          (λ (here : (n ≡ i) × (a ≡ x)). ap flag (sym here.1) ∙ marked)
          (λ (there : slice_get xs n ≡ Some x). ⊎_elim
          (λ (before : Contains numbers n). marks.set_to n x there before)
          (λ (same : i ≡ n).
          let now : slice_get (set xs i a) n ≡ Some a = subst (λ k. slice_get (set xs i a) k ≡ Some a) same (changed_here xs i a b was) in
          ap flag (same_Some x a (sym at ∙ now)) ∙ marked)
          (Contains-push_cases numbers i n contains))
          (at_changed xs i n a b x was at);
    }
