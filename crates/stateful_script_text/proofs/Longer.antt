-- The text of a longer history.
use Rattle.std.proofs.Common.{◌≡◌, ℕ, ◌+◌, List, [], ◌∷◌, ◌++◌, length, ap, arith, ◌∙◌, append_assoc, zero-add}
use Rattle.std.specs.List.{flat_map, enumerate_from}
use Rattle.std.proofs.lemmas.List.Concat.{flat_map-append}
use Rattle.stateful_history.specs.declared.entry.Entry.{Entry}
use Rattle.stateful_script_text.specs.declared.shown.Label.{Label}
use Rattle.stateful_script_text.specs.declared.shown.Shown.{Shown}
use Rattle.stateful_script_text.specs.Transcript.{entry_lines, entries_from, database_line, Ending, end_line, transcript}

-- the numbers go on
enumerate_from-append : {X : Type 0} (n : ℕ) (xs ys : List X) → enumerate_from n (xs ++ ys) ≡ enumerate_from n xs ++ enumerate_from (n + length xs) ys
enumerate_from-append n [] ys = ap (λ m. enumerate_from m ys) (omega arith)
enumerate_from-append n (x ∷ xs) ys = ap (λ zs. (n, x) ∷ zs) (enumerate_from-append (n + 1) xs ys ∙ ap (λ m. enumerate_from (n + 1) xs ++ enumerate_from m ys) (omega arith))

module _ {B C I : Type 0} (height : B → ℕ) (labels : List Label) where
  -- the lines of entries and then further ones
  pub entries_from-append : (n : ℕ) (xs ys : List (Entry B C I)) → entries_from height labels n (xs ++ ys) ≡ entries_from height labels n xs ++ entries_from height labels (n + length xs) ys
  entries_from-append n xs ys = ap (flat_map (entry_lines height labels)) (enumerate_from-append n xs ys) ∙ flat_map-append (entry_lines height labels) (enumerate_from n xs) (enumerate_from (n + length xs) ys)

  -- the text of a longer history begins with the lines of its first entries
  pub transcript-append : (xs ys : List (Entry B C I)) (databases : List Shown) (ending : Ending) → transcript height labels (xs ++ ys) databases ending ≡ entries_from height labels 0 xs ++ (entries_from height labels (length xs) ys ++ flat_map database_line (enumerate_from 0 databases) ++ end_line ending)
  transcript-append xs ys databases ending = rw (entries_from-append 0 xs ys, zero-add) (simp append_assoc)
