-- the first place in a list at which a test passes
use Rattle.std.proofs.Common.{◌≡◌, ℕ, ◌+◌, Bool, true, false, cond, List, [], ◌∷◌, ◌++◌, length, Some, None, position, refl, ap, sym, ◌∙◌, arith, add-zero}
use Rattle.std.specs.List.{position_from}
use Rattle.std.proofs.lemmas.Iterator.Adapters.{position_from-zero}

from_last : {X : Type 0} (p : X → Bool) (i : ℕ) (xs : List X) (y : X) → position_from p i xs ≡ None → p y ≡ true → position_from p i (xs ++ y ∷ []) ≡ Some (i + length xs)
from_last p i [] y none passes = rw (passes, add-zero i) refl
from_last p i (x ∷ xs) y none passes =
    elim (p x) as (λ b. cond b (Some i) (position_from p (i + 1) xs) ≡ None → cond b (Some i) (position_from p (i + 1) (xs ++ y ∷ [])) ≡ Some (i + length (x ∷ xs))) [
      | true ↦ λ h. cc
      | false ↦ λ h. from_last p (i + 1) xs y h passes ∙ ap (λ n. Some n) (omega arith)
    ] none

-- no element passes but the last
pub position_last : {X : Type 0} (p : X → Bool) (xs : List X) (y : X) → position p xs ≡ None → p y ≡ true → position p (xs ++ y ∷ []) ≡ Some (length xs)
position_last p xs y none passes =
    position_from-zero p (xs ++ y ∷ [])
    ∙ from_last p 0 xs y (sym (position_from-zero p xs) ∙ none) passes
    ∙ ap (λ n. Some n) (omega arith)
