-- What the words of a line spell.
use Rattle.std.specs.Prelude.{◌≡◌, ℕ, List, [], Result, MatchOption, slice_get}
use Rattle.std.specs.Borrow.{Bor}
use Rattle.std.specs.Result.{result_unwrap_or}

-- the word of this number, from 0, or an empty one where there are fewer
abbrev pub IsWordAt : List (Bor (List ℕ)) → ℕ → Bor (List ℕ) → Type 0
IsWordAt words at word = MatchOption (slice_get words at) (word.now ≡ []) (λ there. word ≡ there)

-- a value is what a text is read as, or the other one where it can't be read
pub record ReadsOr {T E : Type 0} (gives : List ℕ → Result T E → Type 0) (text : List ℕ)
    (other value : T) : Type 0 where
  pub read : Result T E
  pub given : gives text read
  pub taken : value ≡ result_unwrap_or read other

-- a number is what the word of this place is read as, or 0 where it can't be read
pub record NumberAt {E : Type 0} (gives : List ℕ → Result ℕ E → Type 0)
    (words : List (Bor (List ℕ))) (at number : ℕ) : Type 0 where
  pub word : Bor (List ℕ)
  pub stands : IsWordAt words at word
  pub spells : ReadsOr gives word.now 0 number
