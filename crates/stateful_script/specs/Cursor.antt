-- The fields that a cursor has left.
use Rattle.std.specs.Prelude.{ℕ, List, [], Option, Some, None, option_map}
use Rattle.stateful_script.specs.Fields.{Fields, fields_of}
use Rattle.stateful_script.specs.declared.cursor.Cursor.{Cursor}

-- none is left behind the last, and else those of the text that is left
abbrev pub fields_in : Option (List ℕ) → Fields
fields_in None = []
fields_in (Some text) = fields_of text

abbrev pub fields_left : Cursor → Fields
fields_left cursor = fields_in (option_map (λ text. text.now) cursor.rest)
