-- Numbers in bytes: of fixed width, the highest byte first.
use Rattle.std.specs.Prelude.{◌≡◌, ℕ, ◌<◌, ◌^◌, List, [], ◌∷◌, All, length}
use Rattle.std.specs.Int.{w32, w64, to_be_bytes}
use Rattle.std.specs.Int.NonZero.{non_zero_u64_get}
use Rattle.std.specs.declared.num.NonZeroU64.{NonZeroU64}
use Rattle.stateful_base.specs.Format.{Format}
use Rattle.stateful_base.specs.declared.number.Height.{Height}
use Rattle.stateful_base.specs.declared.number.Epoch.{Epoch}
use Rattle.stateful_base.specs.declared.number.View.{View}
use Rattle.stateful_base.specs.declared.number.Location.{Location}

-- so many bytes, as they are
abbrev pub bytes_format : ℕ → Format (List ℕ)
bytes_format n =
    record
    { fits = λ bytes. (length bytes ≡ n) × All (λ b. b < 2 ^ 8) bytes; spelling = λ bytes. bytes }

-- one byte
abbrev pub u8_format : Format ℕ
u8_format = record { fits = λ n. n < 2 ^ 8; spelling = λ n. n ∷ [] }

-- four bytes
abbrev pub u32_format : Format ℕ
u32_format = record { fits = λ n. n < 2 ^ 32; spelling = to_be_bytes w32 }

-- eight bytes
abbrev pub u64_format : Format ℕ
u64_format = record { fits = λ n. n < 2 ^ 64; spelling = to_be_bytes w64 }

-- eight bytes, which are not all 0
abbrev pub nonzero_format : Format NonZeroU64
nonzero_format =
    record {
      fits =
          λ n. u64_format.fits (non_zero_u64_get n);
      spelling =
          λ n. u64_format.spelling (non_zero_u64_get n);
    }

abbrev pub height_format : Format Height
height_format = record { fits = λ h. u64_format.fits h.0; spelling = λ h. u64_format.spelling h.0 }

abbrev pub epoch_format : Format Epoch
epoch_format = record { fits = λ e. u64_format.fits e.0; spelling = λ e. u64_format.spelling e.0 }

abbrev pub view_format : Format View
view_format = record { fits = λ v. u64_format.fits v.0; spelling = λ v. u64_format.spelling v.0 }

abbrev pub location_format : Format Location
location_format =
    record { fits = λ l. u64_format.fits l.0; spelling = λ l. u64_format.spelling l.0 }
