-- A field of digits is the decimal form of its number.
use Rattle.std.proofs.Common.{◌≡◌, ℕ, ◌^◌, ◌<◌, ◌≤◌, ◌&&◌, List, length, true, Some, nat_le, arith, ap, sym, ◌∙◌, get_or, ◌⊎◌, inl, inr, zero, suc}
use Rattle.std.specs.List.{list_all}
use Rattle.std.specs.Char.{is_ascii_digit}
use Rattle.std.specs.Fmt.{decimal}
use Rattle.std.specs.Str.Parse.{digits_value}
use Rattle.std.proofs.lemmas.Grind.{common_steps}
use Rattle.std.proofs.lemmas.Option.{cond_some}
use Rattle.std.proofs.lemmas.Fmt.{decimal-digits_value, digits_decimal, digits_value-decimal, decimal_nonempty, first_decimal, decimal_digit}
use Rattle.stateful_script.specs.Fields.{is_numeral, number_to, NumberIsDecimal}
use Rattle.stateful_script.proofs.Numbers.{digits, numeral_parts}

no_zero : (field : List ℕ) → is_numeral field ≡ true → get_or field 0 0 ≡ 48 → length field ≡ 1
unfolding is_numeral
no_zero field h first = grind (arith, common_steps)

pub spelled : (most : ℕ) (field : List ℕ) (n : ℕ) → number_to most field ≡ Some n → (is_numeral field ≡ true) × (digits_value 10 field ≤ most) × (digits_value 10 field ≡ n)
unfolding number_to
spelled most field n h =
    let parts = cond_some (is_numeral field && nat_le (digits_value 10 field) most) (digits_value 10 field) n h in
    (grind (arith, common_steps, parts.0), grind (arith, common_steps, parts.0), parts.1)

is_decimal : (most : ℕ) (field : List ℕ) (n : ℕ) → most < 2 ^ 64 → number_to most field ≡ Some n → (field ≡ decimal n) × (n ≤ most)
is_decimal most field n small h =
    let s = spelled most field n h in
    let p = numeral_parts field s.0 in
    let d = decimal-digits_value digits field p.1 p.0 (no_zero field s.0) (omega (arith, s.1)) in
    (sym (ap decimal (sym s.2) ∙ d), omega (arith, s.1, s.2))

numeral_from : (field : List ℕ) → 0 < length field → list_all is_ascii_digit field ≡ true → 48 < get_or field 0 0 ⊎ (length field ≡ 1) → is_numeral field ≡ true
unfolding is_numeral
numeral_from field some all first = grind (arith, common_steps)

numeral : (n : ℕ) → n < 2 ^ 64 → is_numeral (decimal n) ≡ true
numeral zero small = numeral_from (decimal 0) (decimal_nonempty 0 small) (digits_decimal digits 0 small) (inr (ap length (decimal_digit 0 (omega arith))))
numeral (suc n) small = numeral_from (decimal (suc n)) (decimal_nonempty (suc n) small) (digits_decimal digits (suc n) small) (inl (first_decimal (suc n) (omega arith) small))

spells : (most n : ℕ) → most < 2 ^ 64 → n ≤ most → number_to most (decimal n) ≡ Some n
unfolding number_to
spells most n small le =
    let value = digits_value-decimal digits n (omega arith) in
    rw (numeral n (omega arith), value) (grind (arith, common_steps))

pub number_is_decimal : NumberIsDecimal
number_is_decimal field most n small = (is_decimal most field n small, λ h. rw h.0 (spells most n small h.1))
