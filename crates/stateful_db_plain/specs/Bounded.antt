-- Numbers of eight bytes in bounds.
use Rattle.std.specs.Prelude.{◌≡◌, ℕ, ◌/◌, ◌^◌, ◌<◌, ◌≤◌}
use Rattle.std.specs.Int.{bytes_high_first}
use Rattle.stateful_base.specs.Format.{Format}
use Rattle.stateful_base.specs.Number.{u64_format}

-- a number from the least up to the most, in eight bytes
abbrev pub bounded_format : ℕ → ℕ → Format ℕ
bounded_format least most = record {
  fits = λ n. (n < 2 ^ 64) × ((least ≤ n) × (n ≤ most));
  spelling = u64_format.spelling;
}

-- such a number, of which so many low bytes are spelled, and the others are these
abbrev pub lower_format : ℕ → ℕ → ℕ → ℕ → Format ℕ
lower_format least most places top = record {
  fits = λ n. (n / 256 ^ places ≡ top) × ((least ≤ n) × (n ≤ most));
  spelling = bytes_high_first places;
}

-- some number in the bounds has these bytes above so many low ones
pub record GoesOn (least most places top : ℕ) : Type 0 where
  pub low : least / 256 ^ places ≤ top
  pub high : top ≤ most / 256 ^ places
