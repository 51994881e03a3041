-- the place of an id among layers
use Rattle.std.proofs.Common.{◌≡◌, ℕ, suc, ◌+◌, ◌≤◌, ◌==◌, ◌||◌, nat_lt, not, Bool, true, false, cond, Option, Some, None, is_some, unwrap_or, position, List, [], ◌∷◌, length, take, refl, ap, sym, ◌∙◌, arith}
use Rattle.std.specs.Bool.{if◌then◌else◌}
use Rattle.std.specs.List.{list_any, position_or_len, position_from}
use Rattle.std.proofs.lemmas.Bool.Decides.{nat_tests}
use Rattle.std.proofs.lemmas.List.{take_all}
use Rattle.std.proofs.lemmas.Iterator.Adapters.{position_from-zero}
use Rattle.stateful_db_overlay.specs.Stack.{Stack, above, above_in, has_layer, cut_at}

if_some : (b : Bool) (m k : ℕ) → cond b (Some m) None ≡ Some k → m ≡ k
if_some true m k h = ap (λ o. unwrap_or o 0) h
if_some false m k h = cc

if_none : (b : Bool) (m : ℕ) → cond b (Some m) None ≡ None → b ≡ false
if_none true m h = cc
if_none false m h = refl

at_least : (m n : ℕ) → nat_lt m n ≡ false → n ≤ m
at_least m n h = grind (arith, nat_tests)

module _ {C : Type 0} (n : ℕ) where
  abbrev here : ℕ × C → Bool
  here l = l.0 == n

  above-take : (ls : List (ℕ × C)) → above n ls ≡ take (position_or_len here ls) ls
  above-take [] = refl
  above-take (l ∷ ls) =
      let count = position_or_len here ls in
      let later : suc count ≡ 1 + count = omega arith in
      elim (l.0 == n) as (λ b. (if b then [] else l ∷ above n ls) ≡ take (cond (not b) (1 + count) 0) (l ∷ ls)) [
        | true ↦ refl
        | false ↦ ap (λ xs. l ∷ xs) (above-take ls) ∙ ap (λ j. take j (l ∷ ls)) later
      ]

  -- the layers above one that stands at a place
  pub above_place : (ls : List (ℕ × C)) (k : ℕ) → position here ls ≡ Some k → above n ls ≡ take k ls
  above_place ls k found = above-take ls ∙ ap (λ j. take j ls) (if_some _ _ k found)

  -- all layers, where none has the id
  pub above_none : (ls : List (ℕ × C)) → position here ls ≡ None → above n ls ≡ ls
  above_none ls none = above-take ls ∙ take_all _ _ (at_least _ _ (if_none _ _ none))

  -- those of a look-up where the base hasn't the id
  pub above_layers : (s : Stack C) (more : List (ℕ × C)) → (s.base == n) ≡ false → more ≡ above n s.layers → more ≡ above_in n s
  above_layers s more off is = rw off is

  any-from : (i : ℕ) (ls : List (ℕ × C)) → list_any here ls ≡ is_some (position_from here i ls)
  any-from i [] = refl
  any-from i (l ∷ ls) =
      elim (l.0 == n) as (λ b. (b || list_any here ls) ≡ is_some (cond b (Some i) (position_from here (i + 1) ls))) [
        | true ↦ refl
        | false ↦ any-from (i + 1) ls
      ]

  -- some layer has it exactly where a place is found
  any_place : (ls : List (ℕ × C)) → list_any here ls ≡ is_some (position here ls)
  any_place ls = any-from 0 ls ∙ ap is_some (sym (position_from-zero here ls))

  -- some layer has the id exactly where a look-up finds it, if the base hasn't
  pub has_place : (s : Stack C) (some : Bool) (o : Option ℕ) → (s.base == n) ≡ false → some ≡ is_some o → o ≡ position here s.layers → some ≡ has_layer s n
  has_place s some o off is found = rw off (is ∙ ap is_some found ∙ sym (any_place s.layers))

  -- they are the first ones
  take-above : (ls : List (ℕ × C)) → take (length (above n ls)) ls ≡ above n ls
  take-above [] = refl
  take-above (l ∷ ls) =
      elim (l.0 == n) as (λ b. take (length (if b then [] else l ∷ above n ls)) (l ∷ ls) ≡ (if b then [] else l ∷ above n ls)) [
        | true ↦ refl
        | false ↦ ap (λ xs. l ∷ xs) (take-above ls)
      ]

  take-above_in : (s : Stack C) → take (length (above_in n s)) s.layers ≡ above_in n s
  take-above_in s =
      elim (s.base == n) as (λ b. take (length (if b then s.layers else above n s.layers)) s.layers ≡ (if b then s.layers else above n s.layers)) [
        | true ↦ take_all (length s.layers) s.layers (omega arith)
        | false ↦ take-above s.layers
      ]

  pub cut_is : (s : Stack C) (has : Bool) (ls : List (ℕ × C)) (k : ℕ) (more : List (ℕ × C)) → has ≡ has_layer s n → has ≡ true → more ≡ above_in n s → k ≡ length more → ls ≡ take k s.layers → record { base = n; layers = ls } ≡ cut_at n s
  cut_is s has ls k more same is above_is count left =
      rw (sym same ∙ is) (ap (λ xs. record { base = n; layers = xs }) (left ∙ ap (λ j. take j s.layers) (count ∙ ap length above_is) ∙ take-above_in s))

  pub cut_not : (s : Stack C) (has : Bool) → has ≡ has_layer s n → has ≡ false → s ≡ cut_at n s
  cut_not s has same is_not = rw (sym same ∙ is_not) refl
