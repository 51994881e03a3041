-- The fields of a line, and what a field may spell: a number, an account, a name.
--
-- Fields are separated by one space. A number is decimal, without a leading zero, up to
-- 18446744073709551615; an account is a number up to 65535. A name is a letter a to z and up to 15
-- letters a to z or digits.
use Rattle.std.specs.Fmt.{decimal}
use Rattle.std.specs.Prelude.{◌≡◌, ◌↔◌, ◌<◌, ◌≤◌, ℕ, ◌-◌, ◌^◌, ◌==◌, Bool, true, false, ◌&&◌, ◌||◌}
use Rattle.std.specs.Prelude.{not, List, [], ◌∷◌, length, Option, Some, None, option_and_then}
use Rattle.std.specs.Prelude.{nat_le, nat_lt, if◌then◌else◌, slice_index}
use Rattle.std.specs.List.{list_all, slice_split}
use Rattle.std.specs.Str.{bytes_eq}
use Rattle.std.specs.Str.Parse.{digits_value}
use Rattle.std.specs.Char.{is_ascii_lowercase, is_ascii_digit}

infixl 10 ◌>>=◌
abbrev pub ◌>>=◌ : {A B : Type 0} → Option A → (A → Option B) → Option B
o >>= f = option_and_then f o

abbrev pub Fields : Type 0
Fields = List (List ℕ)

-- what stands between single spaces
abbrev pub fields_of : List ℕ → Fields
fields_of line = slice_split (λ b. b == 32) line

-- the first field, and those after it
abbrev pub field_at : Fields → Option (List ℕ × Fields)
field_at [] = None
field_at (field ∷ fields) = Some (field, fields)

-- what follows this word
unfoldable pub after_word : List ℕ → Fields → Option Fields
after_word word fields = do
  field ← field_at fields
  if bytes_eq field.0 word then Some field.1 else None

-- decimal digits without a leading zero
unfoldable pub is_numeral : List ℕ → Bool
is_numeral field =
    nat_lt 0 (length field) && not
    (slice_index field 0 == 48 && nat_lt 1 (length field)) && list_all is_ascii_digit field

-- the number that a field spells, up to a greatest one
unfoldable pub number_to : ℕ → List ℕ → Option ℕ
number_to most field =
    if is_numeral field && nat_le (digits_value 10 field) most then Some (digits_value 10 field)
    else None

abbrev pub number : List ℕ → Option ℕ
number field = number_to (2 ^ 64 - 1) field

abbrev pub account : List ℕ → Option ℕ
account field = number_to 65535 field

-- the turns of a hook: a number up to 9
abbrev pub turns : List ℕ → Option ℕ
turns field = number_to 9 field

-- the next field, as what it spells
abbrev pub field_as : {A : Type 0} → (List ℕ → Option A) → Fields → Option (A × Fields)
field_as spells fields = do
  field ← field_at fields
  a ← spells field.0
  Some (a, field.1)

unfoldable pub number_at : Fields → Option (ℕ × Fields)
number_at fields = field_as number fields

unfoldable pub account_at : Fields → Option (ℕ × Fields)
account_at fields = field_as account fields

unfoldable pub turns_at : Fields → Option (ℕ × Fields)
turns_at fields = field_as turns fields

-- whether this word stands at the end; none where the line goes on in another way
unfoldable pub last_word : List ℕ → Fields → Option (Bool × Fields)
last_word word [] = Some (false, [])
last_word word (field ∷ fields) = if bytes_eq field word then Some (true, fields) else None

-- a letter a to z, or a digit
abbrev pub is_name_byte : ℕ → Bool
is_name_byte b = is_ascii_lowercase b || is_ascii_digit b

-- a letter a to z, and up to 15 letters a to z or digits
unfoldable pub is_name : List ℕ → Bool
is_name field =
    nat_lt 0 (length field) && nat_le (length field) 16 && is_ascii_lowercase
    (slice_index field 0) && list_all is_name_byte field

-- a field spells the number of which it is the decimal form, and no other
abbrev pub NumberIsDecimal : Type 0
NumberIsDecimal =
    (field : List ℕ) (most n : ℕ)
    → most < 2 ^ 64
    → number_to most field ≡ Some n ↔ (field ≡ decimal n) × (n ≤ most)
