-- Cutting a list at the first element that passes a test.
use Rattle.std.proofs.Common.{◌≡◌, ℕ, ◌+◌, ◌-◌, ◌<◌, ◌≤◌, List, [], ◌∷◌, length, take, drop, Bool, true, false, Some, None, arith, refl, position}
use Rattle.std.specs.List.{slice_split, position_or_len}
use Rattle.std.proofs.lemmas.Grind.{common_steps}
use Rattle.std.proofs.lemmas.List.Splits.{slice_split_first, slice_split-cons_no}
use Rattle.std.proofs.lemmas.List.{take_all, length-drop}

none_step : (p : ℕ → Bool) (x : ℕ) (xs : List ℕ) (b : Bool) → p x ≡ b → (length xs ≤ position_or_len p xs → slice_split p xs ≡ xs ∷ []) → length (x ∷ xs) ≤ position_or_len p (x ∷ xs) → slice_split p (x ∷ xs) ≡ (x ∷ xs) ∷ []
none_step p x xs true passes rest h = absurd (let at_once : position_or_len p (x ∷ xs) ≡ 0 = rw passes refl in omega arith)
none_step p x xs false passes rest h =
    let later : position_or_len p (x ∷ xs) ≡ 1 + position_or_len p xs = rw passes refl in
    rw (slice_split-cons_no p x xs passes) (rw (rest (omega arith)) refl)

uncut : (p : ℕ → Bool) (xs : List ℕ) → length xs ≤ position_or_len p xs → slice_split p xs ≡ xs ∷ []
uncut p [] h = refl
uncut p (x ∷ xs) h = none_step p x xs (p x) refl (uncut p xs) h

-- where none passes, the list is the one part
pub no_place : (p : ℕ → Bool) (xs : List ℕ) → position p xs ≡ None → slice_split p xs ≡ xs ∷ []
no_place p xs h = uncut p xs (grind (arith, common_steps))

-- the first part ends at the first that passes
pub at_place : (p : ℕ → Bool) (xs : List ℕ) (i : ℕ) → position p xs ≡ Some i → slice_split p xs ≡ take i xs ∷ slice_split p (take (length xs - (i + 1)) (drop (i + 1) xs))
at_place p xs i h =
    let found : (position_or_len p xs < length xs) × (position_or_len p xs ≡ i) = grind (arith, common_steps) in
    let whole : take (length xs - (i + 1)) (drop (i + 1) xs) ≡ drop (i + 1) xs = take_all (length xs - (i + 1)) (drop (i + 1) xs) (omega (arith, length-drop (i + 1) xs)) in
    rw whole (rw (← found.1) (slice_split_first p xs 0 found.0))
