-- The whole text of a history, and the lines that stand in its place.
use Rattle.std.specs.Prelude.{ℕ, List, [], ◌∷◌, ◌++◌, map, codes}
use Rattle.std.specs.List.{flat_map, enumerate_from}
use Rattle.std.specs.Fmt.{decimal}
use Rattle.stateful_history.specs.declared.entry.Entry.{Entry}
use Rattle.stateful_script_text.specs.declared.shown.Label.{Label}
use Rattle.stateful_script_text.specs.declared.shown.Shown.{Shown}
use Rattle.stateful_script_text.specs.declared.shown.Shown.TheVariants.{Balances, Range, Size, Closed}
use Rattle.stateful_script_text.specs.declared.shown.Shown.TheVariants.{Lost, Away}
use Rattle.stateful_script_text.specs.declared.shown.End.{End}
use Rattle.stateful_script_text.specs.declared.shown.End.TheVariants.{Done, Halted}
use Rattle.stateful_script_text.specs.Line.{line}
use Rattle.stateful_script_text.specs.Mark.{mark_line}

-- The entries' lines, by these heights of blocks and these names.
module _ {B : Type 0} (height_of : B → ℕ) (labels : List Label) where
  module _ {C I : Type 0} where
    -- a number sign and the entry's number, and a line for each mark
    abbrev pub entry_lines : ℕ × Entry B C I → List ℕ
    entry_lines (number, entry) =
        line (codes "#" ++ decimal number) [] ++ flat_map (mark_line height_of labels) entry.marks

    -- the lines of entries that are numbered from here on
    abbrev pub entries_from : ℕ → List (Entry B C I) → List ℕ
    entries_from number entries = flat_map entry_lines (enumerate_from number entries)

-- an account and its balance
abbrev pub balance_text : ℕ × ℕ → List ℕ
balance_text (account, balance) = decimal account ++ codes "=" ++ decimal balance

-- operations from a location on, and before another
abbrev pub range_text : ℕ → ℕ → List ℕ
range_text start end = decimal start ++ codes ".." ++ decimal end

-- the line of a database, by its number
abbrev pub database_line : ℕ × Shown → List ℕ
database_line (number, Balances start end balances) =
    line (codes "database") (decimal number ∷ range_text start end ∷ map balance_text balances)
database_line (number, Range start end) =
    line (codes "database") (decimal number ∷ range_text start end ∷ [])
database_line (number, Size size) = line (codes "database") (decimal number ∷ decimal size ∷ [])
database_line (number, Closed) = line (codes "database") (decimal number ∷ codes "closed" ∷ [])
database_line (number, Lost) = line (codes "database") (decimal number ∷ codes "lost" ∷ [])
database_line (number, Away) = line (codes "database") (decimal number ∷ codes "away" ∷ [])

-- how a history ended: with its last event, or at the event of a number, with the error of a name
pub data Ending : Type 0 where
  WithLast : Ending
  HaltedAt : ℕ → List ℕ → Ending

abbrev pub ending_of : End → Ending
ending_of Done = WithLast
ending_of (Halted at name) = HaltedAt at name.now

abbrev pub end_line : Ending → List ℕ
end_line WithLast = line (codes "done") []
end_line (HaltedAt at name) = line (codes "halted") (decimal at ∷ name ∷ [])

-- The entries and then the databases by their numbers from 0 on, and how it ended. Lines name
-- blocks by these labels, and a line that has a block's height takes it from the block.
abbrev pub transcript : {B C I : Type 0}
    → (B → ℕ)
    → List Label
    → List (Entry B C I)
    → List Shown
    → Ending
    → List ℕ
transcript height_of labels entries databases ending =
    entries_from height_of labels 0 entries ++ flat_map database_line (enumerate_from 0 databases)
    ++ end_line ending

-- what is written where the program is called with other words
abbrev pub usage_line : List ℕ
usage_line = line (codes "usage: stateful_prog play") []

-- what is written where a script is refused at this line
abbrev pub script_line : ℕ → List ℕ
script_line number = line (codes "script") (decimal number ∷ [])
