-- Numbers and digests, read back from how they are spelled.
use Rattle.std.proofs.Common.{◌≡◌, ℕ, ◌+◌, ◌-◌, ◌*◌, ◌/◌, ◌%◌, ◌^◌, ◌<◌, List, [], ◌∷◌, true, cond, ltb, get_or, refl, arith}
use Rattle.std.specs.Fmt.{decimal}
use Rattle.std.specs.Char.{digit_char}
use Rattle.std.specs.Str.Parse.{digits_value, AllDigits}
use Rattle.std.proofs.lemmas.Fmt.{decimal_is_IsNumeral}
use Rattle.std.proofs.lemmas.Str.Parse.{digit_from_value, digit_at}
use Rattle.std.proofs.lemmas.Bool.{and_from, lt-ltb, cond_both}
use Rattle.std.proofs.lemmas.Bool.Decides.{nat_tests}
use Rattle.stateful_script_text.specs.Line.{hex_of}
use Rattle.stateful_script_text.proofs.Words.{is_plain}

-- the number of a decimal
pub number_of : List ℕ → ℕ
number_of digits = digits_value 10 digits

pub number_of-decimal : (n : ℕ) → n < 2 ^ 64 → number_of (decimal n) ≡ n
unfolding number_of
number_of-decimal n fits = (decimal_is_IsNumeral n fits).1

is_plain-digits : (ds : List ℕ) → AllDigits 10 ds → is_plain ds ≡ true
is_plain-digits [] h = refl
is_plain-digits (c ∷ cs) h =
    let range = digit_from_value c h.0 in
    and_from (ltb 32 c) (is_plain cs) (lt-ltb 32 c (omega arith)) (is_plain-digits cs h.1)

pub is_plain-decimal : (n : ℕ) → n < 2 ^ 64 → is_plain (decimal n) ≡ true
is_plain-decimal n fits = is_plain-digits (decimal n) (decimal_is_IsNumeral n fits).0.1

-- a decimal begins with a digit
pub first_of_decimal : (n : ℕ) → n < 2 ^ 64 → get_or (decimal n) 0 0 < 58
first_of_decimal n fits =
    let numeral = (decimal_is_IsNumeral n fits).0 in
    let range = digit_at (decimal n) 0 numeral.1 numeral.0 in
    omega arith

hex_value : ℕ → ℕ
hex_value c = cond (ltb c 58) (c - 48) (c - 87)

hex_value-digit_char : (n : ℕ) → hex_value (digit_char n) ≡ n
unfolding hex_value
hex_value-digit_char n = grind (arith, nat_tests)

above_space : (n : ℕ) → ltb 32 (digit_char n) ≡ true
above_space n = cond_both (ltb n 10) (48 + n) (87 + n) (λ c. ltb 32 c ≡ true) (λ _. lt-ltb 32 (48 + n) (omega arith)) (λ _. lt-ltb 32 (87 + n) (omega arith))

-- the bytes of two digits each
pub bytes_of : List ℕ → List ℕ
bytes_of [] = []
bytes_of (a ∷ []) = []
bytes_of (a ∷ b ∷ rest) = (16 * hex_value a + hex_value b) ∷ bytes_of rest

pub bytes_of-hex_of : (bytes : List ℕ) → bytes_of (hex_of bytes) ≡ bytes
unfolding bytes_of
bytes_of-hex_of [] = refl
bytes_of-hex_of (b ∷ bs) =
    let value : 16 * hex_value (digit_char (b / 16)) + hex_value (digit_char (b % 16)) ≡ b = rw (hex_value-digit_char (b / 16), hex_value-digit_char (b % 16)) (omega arith) in
    let rest = bytes_of-hex_of bs in
    cc

pub is_plain-hex_of : (bytes : List ℕ) → is_plain (hex_of bytes) ≡ true
is_plain-hex_of [] = refl
is_plain-hex_of (b ∷ bs) =
    and_from _ _ (above_space (b / 16)) (and_from _ _ (above_space (b % 16)) (is_plain-hex_of bs))
