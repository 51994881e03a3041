-- Lists whose elements are numbered from 0 on, piece by piece.
use Rattle.std.proofs.Common.{◌≡◌, ℕ, ◌+◌, ◌<◌, ◌≤◌, List, [], ◌∷◌, ◌++◌, length, get_or, take, ap, refl, arith, ◌∙◌, sym, append-nil, append_assoc, zero-add}
use Rattle.std.specs.List.{flat_map, enumerate_from}
use Rattle.std.proofs.lemmas.List.{take_more, take_all}
use Rattle.std.proofs.lemmas.List.Concat.{flat_map-append}
use Rattle.std.proofs.lemmas.List.FromFn.{length-enumerate_from, get_or-enumerate_from}

-- one element more
numbered_more : {X A : Type 0} (f : ℕ × X → List A) (xs : List X) (i : ℕ) (x : X) → i < length xs → x ≡ get_or xs i x → flat_map f (take (i + 1) (enumerate_from 0 xs)) ≡ flat_map f (take i (enumerate_from 0 xs)) ++ f (i, x)
numbered_more f xs i x within at =
    let numbered : get_or (enumerate_from 0 xs) i (i, x) ≡ (i, x) = get_or-enumerate_from 0 xs i (i, x) within ∙ rw (zero-add, ← at) refl in
    let within' : i < length (enumerate_from 0 xs) = omega (arith, length-enumerate_from 0 xs) in
    let more : take (i + 1) (enumerate_from 0 xs) ≡ take i (enumerate_from 0 xs) ++ (i, x) ∷ [] = take_more (enumerate_from 0 xs) i (i, x) within' ∙ ap (λ y. take i (enumerate_from 0 xs) ++ y ∷ []) numbered in
    ap (flat_map f) more ∙ flat_map-append f (take i (enumerate_from 0 xs)) ((i, x) ∷ []) ∙ ap (λ ys. flat_map f (take i (enumerate_from 0 xs)) ++ ys) (append-nil (f (i, x)))

-- the text of one element more
pub written_more : {X A : Type 0} (f : ℕ × X → List A) (xs : List X) (i : ℕ) (x : X) (start text new : List A) → i < length xs → x ≡ get_or xs i x → text ≡ start ++ flat_map f (take i (enumerate_from 0 xs)) → new ≡ text ++ f (i, x) → new ≡ start ++ flat_map f (take (i + 1) (enumerate_from 0 xs))
written_more f xs i x start text new within at before more =
    more ∙ ap (λ ys. ys ++ f (i, x)) before ∙ append_assoc start (flat_map f (take i (enumerate_from 0 xs))) (f (i, x)) ∙ ap (λ ys. start ++ ys) (sym (numbered_more f xs i x within at))

-- all of them
pub numbered_all : {X A : Type 0} (f : ℕ × X → List A) (xs : List X) (n : ℕ) → length xs ≤ n → flat_map f (take n (enumerate_from 0 xs)) ≡ flat_map f (enumerate_from 0 xs)
numbered_all f xs n all = ap (flat_map f) (take_all n (enumerate_from 0 xs) (omega (arith, length-enumerate_from 0 xs)))
