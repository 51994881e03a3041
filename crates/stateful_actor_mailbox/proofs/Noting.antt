-- Reading marks one by one.
use Rattle.std.proofs.Common.{◌≡◌, ℕ, ◌+◌, ◌<◌, Option, Some, None, List, [], ◌∷◌, ◌++◌, length, take, get_or, sym, ap, ◌∙◌, refl}
use Rattle.std.specs.Prelude.{option_to_list}
use Rattle.std.specs.List.{filter_map}
use Rattle.std.proofs.lemmas.List.{take_more}
use Rattle.std.proofs.lemmas.List.Elements.{filter_map-append}

module _ {X Y : Type 0} (h : X → Option Y) where
  one_given : (x : X) (o : Option Y) → o ≡ h x → filter_map h (x ∷ []) ≡ option_to_list o
  one_given x None is = rw (sym is) refl
  one_given x (Some y) is = rw (sym is) refl

  -- what one item more gives
  pub filter_map-more : (xs : List X) (i : ℕ) (x : X) (o : Option Y) → i < length xs → x ≡ get_or xs i x → o ≡ h x
      → filter_map h (take (i + 1) xs) ≡ filter_map h (take i xs) ++ option_to_list o
  filter_map-more xs i x o lt at is =
      ap (filter_map h) (take_more xs i x lt ∙ ap (λ w. take i xs ++ w ∷ []) (sym at))
      ∙ filter_map-append h (take i xs) (x ∷ [])
      ∙ ap (λ w. filter_map h (take i xs) ++ w) (one_given x o is)
