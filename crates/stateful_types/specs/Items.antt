-- Lists in bytes.
use Rattle.std.specs.Prelude.{◌≡◌, ℕ, List, ◌++◌, length, All}
use Rattle.std.specs.List.{flat_map}
use Rattle.stateful_base.specs.Format.{Format}
use Rattle.stateful_base.specs.Number.{u32_format}

-- so many items, one behind the other
abbrev pub exactly_format : {A : Type 0} → ℕ → Format A → Format (List A)
exactly_format count item =
    record {
      fits =
          λ xs. (length xs ≡ count) × All item.fits xs;
      spelling = λ xs. flat_map item.spelling xs;
    }

-- how many items there are, and then the items
abbrev pub items_format : {A : Type 0} → Format A → Format (List A)
items_format item = record {
  fits = λ xs. u32_format.fits (length xs) × All item.fits xs;
  spelling = λ xs. u32_format.spelling (length xs) ++ flat_map item.spelling xs;
}
