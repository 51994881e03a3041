-- Bytes as the hex digits that the crate `hex` writes.
use Rattle.std.proofs.Common.{◌≡◌, ℕ, zero, suc, ◌/◌, ◌%◌, ◌^◌, ◌<◌, ◌==◌, ◌&&◌, Bool, true, List, [], ◌∷◌, slice_index, get_or, refl, arith}
use Rattle.std.specs.Char.{digit_char}
use Rattle.std.proofs.lemmas.Bool.{and_parts, cases_lt, eqb-true}
use Rattle.std.proofs.Common.{inl, inr}
use Rattle.hex.specs.Hex.{lower_digits, encode_with, encode_lower}
use Rattle.stateful_script_text.specs.Line.{hex_of}

-- a test of the first digits of the table, which computes
abbrev are_digits : ℕ → Bool
are_digits zero = true
are_digits (suc n) = (slice_index lower_digits n == digit_char n) && are_digits n

digit_at : (n k : ℕ) → are_digits n ≡ true → k < n → slice_index lower_digits k ≡ digit_char k
digit_at zero k same below = absurd (omega arith)
digit_at (suc n) k same below =
    let parts = and_parts (slice_index lower_digits n == digit_char n) (are_digits n) same in
    elim (cases_lt k n) [
      | inl lower ↦ digit_at n k parts.1 lower
      | inr top ↦ let e : k ≡ n = omega arith in rw e (eqb-true _ _ parts.0)
    ]

-- the digits of bytes
pub encode_lower-bytes : (bytes : List ℕ) → ((k : ℕ) → get_or bytes k 0 < 2 ^ 8) → encode_lower bytes ≡ hex_of bytes
unfolding encode_with
encode_lower-bytes [] fit = refl
encode_lower-bytes (b ∷ bytes) fit =
    let byte : b < 2 ^ 8 = fit 0 in
    let high = digit_at 16 (b / 16) refl (omega arith) in
    let low = digit_at 16 (b % 16) refl (omega arith) in
    let rest = encode_lower-bytes bytes (λ k. fit (suc k)) in
    cc
