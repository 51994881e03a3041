-- Laws of a script's bytes.
use Rattle.std.proofs.Common.{◌≡◌, ℕ, List, [], ◌∷◌, ◌++◌, ◌⊎◌, inl, inr, refl, ap, sym, ◌∙◌, append_assoc, append-nil}
use Rattle.stateful_script.specs.Laws.{text_of, WholeIsRead, FirstIsNamed, LastIsEnded}
use Rattle.stateful_script.proofs.FromLines.{is_whole, is_first}
use Rattle.stateful_script.proofs.ToLines.{whole, first}

pub whole_is_read : WholeIsRead
whole_is_read bytes s = (whole bytes s, is_whole bytes s)

pub first_is_named : FirstIsNamed
first_is_named bytes number = (first bytes number, is_first bytes number)

abbrev Ends : List ℕ → Type 0
Ends bytes = (bytes ≡ []) ⊎ ((front : List ℕ) × (bytes ≡ front ++ 10 ∷ []))

ends_after : (line bytes : List ℕ) → Ends bytes → Ends (line ++ 10 ∷ [] ++ bytes)
ends_after line bytes (inl none) = inr (line, ap (λ more. line ++ 10 ∷ [] ++ more) none ∙ append-nil (line ++ 10 ∷ []))
ends_after line bytes (inr (front, is)) = inr (line ++ 10 ∷ [] ++ front, ap (λ more. line ++ 10 ∷ [] ++ more) is ∙ sym (append_assoc (line ++ 10 ∷ []) front (10 ∷ [])))

ends : (lines : List (List ℕ)) → Ends (text_of lines)
ends [] = inl refl
ends (line ∷ lines) = ends_after line (text_of lines) (ends lines)

ends_as : (bytes text : List ℕ) → bytes ≡ text → Ends text → Ends bytes
ends_as bytes text same (inl none) = inl (same ∙ none)
ends_as bytes text same (inr (front, is)) = inr (front, same ∙ is)

pub last_is_ended : LastIsEnded
last_is_ended bytes s h = let w = whole bytes s h in ends_as bytes (text_of w.lines) w.spelled (ends w.lines)
