-- The last entries of a list.
use Rattle.std.proofs.Common.{◌≡◌, ℕ, ◌+◌, ◌-◌, ◌<◌, ◌≤◌, List, [], ◌∷◌, ◌++◌, length, take, drop, map, get_or, refl, sym, ap, ◌∙◌, arith, length-append, length-drop}
use Rattle.std.specs.Prelude.{All}
use Rattle.std.proofs.lemmas.List.{drop-drop, drop-append-le, drop-map, length-map, drop_all, drop_more}
use Rattle.std.proofs.lemmas.List.Elements.{All-nil, All-cons, All-head}
use Rattle.stateful_pruning.specs.Rule.{window}

-- where there are no more, all are in the window
pub window_all : {A : Type 0} (n : ℕ) (xs : List A) → length xs ≤ n → window n xs ≡ xs
window_all n xs short = let none : length xs - n ≡ 0 = omega arith in rw none refl

-- how many are in the window
pub length-window : {A : Type 0} (n : ℕ) (xs : List A) → length (window n xs) ≡ length xs - (length xs - n)
length-window n xs = length-drop (length xs - n) xs

-- the window of a larger window
pub window-window : {A : Type 0} (k n : ℕ) (xs : List A) → k ≤ n → window k (window n xs) ≡ window k xs
window-window k n xs smaller =
    drop-drop (length (window n xs) - k) (length xs - n) xs
    ∙ ap (λ i. drop i xs) (let at : (length xs - n) + (length (window n xs) - k) ≡ length xs - k = rw (length-window n xs) (omega arith) in at)

-- with one more entry
pub window-push : {A : Type 0} (n : ℕ) (xs : List A) (x : A) → window n (window n xs ++ x ∷ []) ≡ window n (xs ++ x ∷ [])
window-push n xs x =
    let wider : window n xs ++ x ∷ [] ≡ window (n + 1) (xs ++ x ∷ []) =
    sym (drop-append-le (length xs - n) xs (x ∷ []) (omega arith))
    ∙ ap (λ i. drop i (xs ++ x ∷ [])) (let at : length xs - n ≡ length (xs ++ x ∷ []) - (n + 1) = omega (arith, length-append xs (x ∷ [])) in at) in
    ap (window n) wider ∙ window-window n (n + 1) (xs ++ x ∷ []) (omega arith)

-- the window of what the fields show
pub window-map : {A B : Type 0} (f : A → B) (n : ℕ) (xs : List A) → window n (map f xs) ≡ map f (window n xs)
window-map f n xs = rw (length-map xs f) (drop-map f (length xs - n) xs)

-- the newest of what the fields show
pub newest_is : {A B : Type 0} (f : A → B) (xs : List A) (i : ℕ) (x : A) → i + 1 ≡ length xs → x ≡ get_or xs i x → window 1 (map f xs) ≡ f x ∷ []
newest_is f xs i x last is =
    let at : length xs - 1 ≡ i = omega arith in
    let behind : drop (i + 1) xs ≡ [] = drop_all (i + 1) xs (omega arith) in
    let last : window 1 xs ≡ x ∷ [] = rw at (rw (behind, ← is) at (drop_more xs i x (omega arith))) in
    window-map f 1 xs ∙ ap (map f) last

-- the oldest of what the fields show
pub oldest_is : {A B : Type 0} (f : A → B) (xs : List A) (x : A) → 0 < length xs → x ≡ get_or xs 0 x → take 1 (map f xs) ≡ f x ∷ []
oldest_is f [] x some is = absurd (omega arith)
oldest_is f (y ∷ ys) x some is = ap (λ z. f z ∷ []) (sym is)

-- what holds of the one element of a list
pub all_of_one : {A : Type 0} (P : A → Type 0) (xs : List A) (x : A) → xs ≡ x ∷ [] → P x → All P xs
all_of_one P xs x is holds = rw is (All-cons P x [] holds (All-nil P))

-- and back
pub one_of_all : {A : Type 0} (P : A → Type 0) (xs : List A) (x : A) → xs ≡ x ∷ [] → All P xs → P x
one_of_all P xs x is all = All-head P x [] (rw is at all)
