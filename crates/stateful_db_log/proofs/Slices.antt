-- reads of joined lists, and the two cases of a test
use Rattle.std.proofs.Common.{◌≡◌, ℕ, zero, suc, ◌+◌, ◌≤◌, ◌<◌, nat_lt, ◌⊎◌, inl, inr, Bool, true, false, List, [], ◌∷◌, ◌++◌, length, refl, ap, ◌∙◌, arith, slice_get}
use Rattle.std.proofs.lemmas.Bool.Decides.{nat_tests}

pub cases : (b : Bool) → (b ≡ true) ⊎ (b ≡ false)
cases true = inl refl
cases false = inr refl

pub test-true : (a b : ℕ) → nat_lt a b ≡ true → a < b
test-true a b h = grind (arith, nat_tests)

pub test-false : (a b : ℕ) → nat_lt a b ≡ false → b ≤ a
test-false a b h = grind (arith, nat_tests)

pub slice_get-front : {X : Type 0} (xs ys : List X) (i : ℕ)
    → i < length xs
    → slice_get (xs ++ ys) i ≡ slice_get xs i
slice_get-front [] ys i h = absurd (omega arith)
slice_get-front (x ∷ xs) ys zero h = refl
slice_get-front (x ∷ xs) ys (suc i) h = slice_get-front xs ys i (omega arith)

pub slice_get-back : {X : Type 0} (xs ys : List X) (i : ℕ)
    → slice_get (xs ++ ys) (length xs + i) ≡ slice_get ys i
slice_get-back [] ys i = let same : 0 + i ≡ i = omega arith in ap (λ n. slice_get ys n) same
slice_get-back (x ∷ xs) ys i =
    let same : suc (length xs) + i ≡ suc (length xs + i) = omega arith in
    ap (λ n. slice_get (x ∷ xs ++ ys) n) same ∙ slice_get-back xs ys i
