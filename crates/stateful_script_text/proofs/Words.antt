-- A text of lines gives the words of its first line, and what is behind that line.
use Rattle.std.proofs.Common.{◌≡◌, ℕ, ◌<◌, List, [], ◌∷◌, ◌++◌, Bool, true, cond, ltb, eqb, ◌&&◌, ap, refl, arith, ◌∙◌, append_assoc, append-nil}
use Rattle.std.specs.Prelude.{All}
use Rattle.std.proofs.lemmas.Bool.{and_parts, and_from, lt-ltb, cond-true, cond-false, ltb-true, ne_eqb}
use Rattle.std.proofs.lemmas.List.Elements.{All-head, All-tail}
use Rattle.stateful_script_text.specs.Line.{line}

-- each byte is above a space
abbrev pub is_plain : List ℕ → Bool
is_plain [] = true
is_plain (c ∷ cs) = ltb 32 c && is_plain cs

abbrev pub ArePlain : List (List ℕ) → Type 0
ArePlain [] = Unit {0}
ArePlain (w ∷ ws) = (is_plain w ≡ true) × ArePlain ws

pub is_plain-from_all : (w : List ℕ) → All (λ c. 32 < c) w → is_plain w ≡ true
is_plain-from_all [] h = refl
is_plain-from_all (c ∷ cs) h =
    and_from (ltb 32 c) (is_plain cs) (lt-ltb 32 c (All-head (λ c. 32 < c) c cs h)) (is_plain-from_all cs (All-tail (λ c. 32 < c) c cs h))

in_front : ℕ → List (List ℕ) → List (List ℕ)
in_front c [] = (c ∷ []) ∷ []
in_front c (w ∷ ws) = (c ∷ w) ∷ ws

-- the words up to the first byte that is none of a line
pub words_of : List ℕ → List (List ℕ)
words_of [] = [] ∷ []
words_of (c ∷ cs) = cond (ltb 32 c) (in_front c (words_of cs)) (cond (eqb c 32) ([] ∷ words_of cs) ([] ∷ []))

words_of-space : (w rest : List ℕ) → is_plain w ≡ true → words_of (w ++ 32 ∷ rest) ≡ w ∷ words_of rest
unfolding words_of in_front
words_of-space [] rest plain = refl
words_of-space (c ∷ cs) rest plain =
    let parts = and_parts (ltb 32 c) (is_plain cs) plain in
    cond-true (ltb 32 c) _ _ parts.0 ∙ ap (in_front c) (words_of-space cs rest parts.1)

words_of-feed : (w rest : List ℕ) → is_plain w ≡ true → words_of (w ++ 10 ∷ rest) ≡ w ∷ []
unfolding words_of in_front
words_of-feed [] rest plain = refl
words_of-feed (c ∷ cs) rest plain =
    let parts = and_parts (ltb 32 c) (is_plain cs) plain in
    cond-true (ltb 32 c) _ _ parts.0 ∙ ap (in_front c) (words_of-feed cs rest parts.1)

-- the words of a line
pub words_of-line : (word : List ℕ) (fields : List (List ℕ)) (rest : List ℕ) → is_plain word ≡ true → ArePlain fields → words_of (line word fields ++ rest) ≡ word ∷ fields
words_of-line word [] rest plain all = rw (append-nil, append_assoc) (words_of-feed word rest plain)
words_of-line word (f ∷ fs) rest plain all =
    let laid : line word (f ∷ fs) ++ rest ≡ word ++ 32 ∷ (line f fs ++ rest) = simp append_assoc in
    ap words_of laid ∙ words_of-space word (line f fs ++ rest) plain ∙ ap (λ ws. word ∷ ws) (words_of-line f fs rest all.0 all.1)

-- what is behind the first line feed
pub rest_of : List ℕ → List ℕ
rest_of [] = []
rest_of (c ∷ cs) = cond (eqb c 10) cs (rest_of cs)

rest_of-word : (w rest : List ℕ) → is_plain w ≡ true → rest_of (w ++ rest) ≡ rest_of rest
unfolding rest_of
rest_of-word [] rest plain = refl
rest_of-word (c ∷ cs) rest plain =
    let parts = and_parts (ltb 32 c) (is_plain cs) plain in
    let above : 32 < c = ltb-true 32 c parts.0 in
    cond-false (eqb c 10) _ _ (ne_eqb c 10 (λ e. omega arith)) ∙ rest_of-word cs rest parts.1

-- what is behind a line
pub rest_of-line : (word : List ℕ) (fields : List (List ℕ)) (rest : List ℕ) → is_plain word ≡ true → ArePlain fields → rest_of (line word fields ++ rest) ≡ rest
unfolding rest_of
rest_of-line word [] rest plain all = rw (append-nil, append_assoc) (rest_of-word word (10 ∷ rest) plain)
rest_of-line word (f ∷ fs) rest plain all =
    let laid : line word (f ∷ fs) ++ rest ≡ word ++ 32 ∷ (line f fs ++ rest) = simp append_assoc in
    ap rest_of laid ∙ rest_of-word word (32 ∷ (line f fs ++ rest)) plain ∙ rest_of-line f fs rest all.0 all.1
