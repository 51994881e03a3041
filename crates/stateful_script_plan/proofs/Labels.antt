-- Labels, one more.
use Rattle.std.proofs.Common.{◌≡◌, ℕ, ◌<◌, ◌≤◌, ◌+◌, List, [], ◌∷◌, ◌++◌, length, take, get_or, refl, ◌∙◌, arith}
use Rattle.std.proofs.lemmas.List.{take_more, take_all, get_or-map, length-map}
use Rattle.std.proofs.lemmas.Slice.Zip.{get_or-zip, length-zip}
use Rattle.std.specs.List.{zip}
use Rattle.stateful_script_text.specs.declared.shown.Label.{Label}
use Rattle.stateful_script_plan.specs.declared.plan.Planned.{Planned}
use Rattle.stateful_script_plan.specs.Plan.{label_of, labels_of}

length-labels : (names : List (List ℕ)) (made : List Planned) → length made ≡ length names → length (labels_of names made) ≡ length names
length-labels names made same =
    length-map (zip names made) label_of ∙ length-zip names made ∙ omega arith

pub labels_more : (names : List (List ℕ)) (made : List Planned) (i : ℕ) (n : List ℕ) (p : Planned) (l : Label) (labels new : List Label)
    → length made ≡ length names → i < length names → n ≡ get_or names i n → p ≡ get_or made i p
    → l ≡ record { name = n; digest = p.block.digest } → labels ≡ take i (labels_of names made) → new ≡ labels ++ l ∷ []
    → new ≡ take (i + 1) (labels_of names made)
labels_more names made i n p l labels new same lt is_n is_p is_l so_far e =
    let long = length-labels names made same in
    let more = take_more (labels_of names made) i l (omega arith) in
    let at = get_or-map label_of (zip names made) i (n, p) l (omega (arith, length-zip names made)) in
    let pair = get_or-zip names made i (n, p) lt (omega arith) in
    let got : get_or (labels_of names made) i l ≡ l = at ∙ rw (pair, ← is_n, ← is_p, is_l) refl in
    rw (more, got, ← so_far) e

pub labels_all : (names : List (List ℕ)) (made : List Planned) (i : ℕ) (labels : List Label)
    → length made ≡ length names → length names ≤ i → labels ≡ take i (labels_of names made) → labels ≡ labels_of names made
labels_all names made i labels same past so_far =
    let long = length-labels names made same in
    so_far ∙ take_all i (labels_of names made) (omega arith)
