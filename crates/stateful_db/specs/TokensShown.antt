-- What the fields of tokens show.
use Rattle.std.specs.Prelude.{◌≡◌, ℕ, List, [], ◌∷◌, Option, Some, None}

abbrev pub places_of : Option ℕ → Option ℕ → List ℕ
places_of None newer = []
places_of (Some place) None = place ∷ []
places_of (Some place) (Some other) = place ∷ other ∷ []

-- the older field is filled first
abbrev pub IsInOrder : Option ℕ → Option ℕ → Type 0
IsInOrder None (Some place) = ⊥
IsInOrder None None = Unit {0}
IsInOrder (Some place) newer = Unit {0}

abbrev pub older_of : List ℕ → Option ℕ
older_of [] = None
older_of (place ∷ places) = Some place

abbrev pub newer_of : List ℕ → Option ℕ
newer_of [] = None
newer_of (place ∷ []) = None
newer_of (place ∷ other ∷ places) = Some other
