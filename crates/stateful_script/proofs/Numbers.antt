-- What a field of digits spells.
use Rattle.std.proofs.Common.{◌≡◌, ℕ, ◌-◌, ◌^◌, ◌<◌, ◌≤◌, List, length, true, Some, None, Result, Ok, Err, arith, rules, refl}
use Rattle.std.specs.List.{list_all}
use Rattle.std.specs.Char.{is_ascii_digit}
use Rattle.std.specs.Str.{IsUtf8}
use Rattle.std.specs.Result.{result_ok}
use Rattle.std.specs.Str.Parse.{digits_value, ParsesUnsigned}
use Rattle.std.proofs.lemmas.Grind.{common_steps}
use Rattle.std.proofs.lemmas.Str.Parse.{IsNumeralModel, numerals_by_value, parse_digits}
use Rattle.std.proofs.lemmas.Str.{IsUtf8-from_ascii}
use Rattle.std.proofs.lemmas.Fmt.{IsAscii-from_digits}
use Rattle.stateful_script.specs.Fields.{is_numeral, number_to}

-- numerals are lists of digits, and their values are those of std
pub digits : IsNumeralModel (λ ds. list_all is_ascii_digit ds ≡ true) (digits_value 10)
digits = numerals_by_value _ (search rules)

pub numeral_parts : (field : List ℕ) → is_numeral field ≡ true → (0 < length field) × (list_all is_ascii_digit field ≡ true)
unfolding is_numeral
numeral_parts field h = grind (arith, common_steps)

pub numeral_is_text : (field : List ℕ) → is_numeral field ≡ true → IsUtf8 field
numeral_is_text field h = IsUtf8-from_ascii field (IsAscii-from_digits field (digits.to field (numeral_parts field h).1))

small : (field : List ℕ) → is_numeral field ≡ true → digits_value 10 field < 2 ^ 64 → number_to (2 ^ 64 - 1) field ≡ Some (digits_value 10 field)
unfolding number_to
small field h below = grind (arith, common_steps)

large : (field : List ℕ) → 2 ^ 64 ≤ digits_value 10 field → number_to (2 ^ 64 - 1) field ≡ None
unfolding number_to
large field above = grind (arith, common_steps)

-- std's parse of a numeral answers as the definition does
pub parsed : {E : Type 0} (field : List ℕ) (r : Result ℕ E) → is_numeral field ≡ true → ParsesUnsigned 64 10 field r → result_ok r ≡ number_to (2 ^ 64 - 1) field
parsed {E = E} field (Ok x) h p = let found = parse_digits digits {E = E} 64 field (Ok x) p (numeral_parts field h).1 in rw (small field h found.0.1) (grind (arith, found.1))
parsed {E = E} field (Err e) h p =
    let found = parse_digits digits {E = E} 64 field (Err e) p (numeral_parts field h).1 in
    let some = (numeral_parts field h).0 in
    let no : digits_value 10 field < 2 ^ 64 → ⊥ = λ below. found (some, below) in
    rw (large field (omega arith)) refl
