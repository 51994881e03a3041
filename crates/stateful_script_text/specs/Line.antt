-- How lines are written, and how a block is named in them.
use Rattle.std.specs.Prelude.{ℕ, ◌/◌, ◌%◌, List, [], ◌∷◌, ◌++◌, Option, Some, None, find}
use Rattle.std.specs.List.{flat_map}
use Rattle.std.specs.Str.{bytes_eq}
use Rattle.std.specs.Fmt.{decimal}
use Rattle.std.specs.Char.{digit_char}
use Rattle.stateful_base.specs.declared.digest.Digest.{Digest}
use Rattle.stateful_script_text.specs.declared.shown.Label.{Label}
use Rattle.stateful_script_text.specs.declared.line.Field.{Field}
use Rattle.stateful_script_text.specs.declared.line.Field.TheVariants.{Word, Number, Block}

-- a word, each field behind a space, and a line feed
abbrev pub line : List ℕ → List (List ℕ) → List ℕ
line word fields = word ++ flat_map (λ field. 32 ∷ field) fields ++ 10 ∷ []

-- two lower case hex digits a byte
abbrev pub hex_of : List ℕ → List ℕ
hex_of bytes = flat_map (λ byte. digit_char (byte / 16) ∷ digit_char (byte % 16) ∷ []) bytes

-- the label's name, or a question mark and the digest in hex
abbrev pub name_or_hex : Option Label → Digest → List ℕ
name_or_hex (Some label) digest = label.name
name_or_hex None digest = 63 ∷ hex_of digest.0

-- the first name of a block's digest, or the digest itself
abbrev pub name_of : List Label → Digest → List ℕ
name_of labels digest = name_or_hex (find (λ label. bytes_eq label.digest.0 digest.0) labels) digest

-- what is written of a field
abbrev pub field_text : List Label → Field → List ℕ
field_text labels (Word word) = word.now
field_text labels (Number number) = decimal number
field_text labels (Block digest) = name_of labels digest
