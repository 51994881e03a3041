-- The formats of fixed width are formats.
use Rattle.std.proofs.Common.{◌≡◌, ℕ, ◌^◌, ◌<◌, List, [], ◌∷◌, ◌++◌, length, get_or, replicate, All}
use Rattle.std.proofs.Common.{refl, sym, ap, ◌∙◌, length-append, arith, inl, inr}
use Rattle.std.specs.Int.{Width, w8, w32, w64, from_be_bytes, to_be_bytes}
use Rattle.std.proofs.lemmas.Bool.{cases_lt}
use Rattle.std.proofs.lemmas.List.{append-nil, nil_from_length, length-replicate, get_or_past}
use Rattle.std.proofs.lemmas.List.Elements.{All-replicate, All-get_or, All-from_recursion, All-cons}
use Rattle.std.proofs.lemmas.List.Elements.{All-nil, All-head}
use Rattle.std.proofs.lemmas.Nat.{be_bytes_4, be_bytes_8, from_be_bytes-to_be_bytes_4}
use Rattle.std.proofs.lemmas.Nat.{from_be_bytes-to_be_bytes_8}
use Rattle.stateful_base.specs.Format.{Format, IsFormat}
use Rattle.stateful_base.specs.Number.{bytes_format, u8_format, u32_format, u64_format}
use Rattle.stateful_base.specs.FormatLaws.{Rest, Rest-format}

abbrev pub IsByte : ℕ → Type 0
IsByte b = b < 2 ^ 8

-- ---- so many bytes

pub bytes_alone : (n : ℕ) → IsFormat (bytes_format n)
bytes_alone n = record {
  some = (replicate n 0, (length-replicate n 0, All-replicate IsByte n 0 (omega arith)));
  alone = λ x y rest fits fits' e.
      let none : rest ≡ [] =
      nil_from_length rest
      (omega (arith, simp length-append at (ap length e), fits.0, fits'.0)) in
      sym (append-nil x) ∙ ap (λ (r : List ℕ). x ++ r) (sym none) ∙ e;
}

-- ---- numbers

each : (bytes : List ℕ) → All IsByte bytes → (i : ℕ) → get_or bytes i 0 < 256
each bytes all i =
    elim (cases_lt i (length bytes)) [
      | inl lt ↦ All-get_or IsByte bytes i 0 lt all
      | inr le ↦ rw (get_or_past bytes i 0 le) (omega arith)
    ]

-- numbers of this width are read back from their bytes, and each so many bytes are those of a
-- number
pub record IsWide (w : Width) (size limit : ℕ) : Type 0 where
  pub len : (n : ℕ) → length (to_be_bytes w n) ≡ size
  pub bytes : (n : ℕ) → All IsByte (to_be_bytes w n)
  pub back : (bytes : List ℕ)
      → (bytes_format size).fits bytes
      → to_be_bytes w (from_be_bytes w bytes) ≡ bytes
  pub again : (n : ℕ) → n < limit → from_be_bytes w (to_be_bytes w n) ≡ n
  pub below : (bytes : List ℕ) → (bytes_format size).fits bytes → from_be_bytes w bytes < limit

bytes_of_4 : (a b c d : ℕ)
    → IsByte a
    → IsByte b
    → IsByte c
    → IsByte d
    → All IsByte (a ∷ b ∷ c ∷ d ∷ [])
bytes_of_4 a b c d ha hb hc hd =
    All-from_recursion IsByte (a ∷ b ∷ c ∷ d ∷ []) (ha, (hb, (hc, (hd, tt))))

bytes_of_8 : (a b c d e f g h : ℕ)
    → IsByte a
    → IsByte b
    → IsByte c
    → IsByte d
    → IsByte e
    → IsByte f
    → IsByte g
    → IsByte h
    → All IsByte (a ∷ b ∷ c ∷ d ∷ e ∷ f ∷ g ∷ h ∷ [])
bytes_of_8 a b c d e f g h ha hb hc hd he hf hg hh =
    All-from_recursion IsByte (a ∷ b ∷ c ∷ d ∷ e ∷ f ∷ g ∷ h ∷ [])
    (ha, (hb, (hc, (hd, (he, (hf, (hg, (hh, tt))))))))

pub wide32 : IsWide w32 4 (2 ^ 32)
wide32 = record {
  len = λ n. refl;
  bytes = λ n. bytes_of_4 _ _ _ _ (omega arith) (omega arith) (omega arith) (omega arith);
  back = λ bytes fits. be_bytes_4 bytes _ fits.0 (each bytes fits.1) refl;
  again = λ n lt. from_be_bytes-to_be_bytes_4 n lt;
  below = λ bytes fits. let h = each bytes fits.1 in omega (arith, h 0, h 1, h 2, h 3);
}

pub wide64 : IsWide w64 8 (2 ^ 64)
wide64 = record {
  len = λ n. refl;
  bytes =
      λ n. bytes_of_8 _ _ _ _ _ _ _ _ (omega arith) (omega arith) (omega arith) (omega arith)
      (omega arith) (omega arith) (omega arith) (omega arith);
  back = λ bytes fits. be_bytes_8 bytes _ fits.0 (each bytes fits.1) refl;
  again = λ n lt. from_be_bytes-to_be_bytes_8 n lt;
  below =
      λ bytes fits. let h =
      each bytes fits.1 in omega (arith, h 0, h 1, h 2, h 3, h 4, h 5, h 6, h 7);
}

abbrev number_format : Width → ℕ → Format ℕ
number_format w limit = record { fits = λ n. n < limit; spelling = to_be_bytes w }

-- so many bytes, read as a number
pub Rest-number : (w : Width) (size limit : ℕ)
    → IsWide w size limit
    → Rest (number_format w limit) [] (bytes_format size) (from_be_bytes w)
Rest-number w size limit wide = record {
  fits = wide.below;
  spelled = wide.back;
  back = λ n bytes lt e. (to_be_bytes w n, (wide.len n, wide.bytes n), sym (wide.again n lt));
}

pub Rest-u32 : Rest u32_format [] (bytes_format 4) (from_be_bytes w32)
Rest-u32 = Rest-number w32 4 (2 ^ 32) wide32

pub Rest-u64 : Rest u64_format [] (bytes_format 8) (from_be_bytes w64)
Rest-u64 = Rest-number w64 8 (2 ^ 64) wide64

from_one : (b : ℕ) → from_be_bytes w8 (b ∷ []) ≡ b
from_one b = omega arith

pub Rest-u8 : Rest u8_format [] (bytes_format 1) (from_be_bytes w8)
Rest-u8 = record {
  fits = λ bytes fits. one_below bytes fits.0 fits.1;
  spelled = λ bytes fits. one_back bytes fits.0;
  back =
      λ n bytes lt e. (n ∷ [], (refl, All-cons IsByte n [] lt (All-nil IsByte)), sym (from_one n));
} where
  one_below : (bytes : List ℕ)
      → length bytes ≡ 1
      → All IsByte bytes
      → from_be_bytes w8 bytes < 2 ^ 8
  one_below [] e all = absurd (omega arith)
  one_below (b ∷ []) e all = rw from_one (All-head IsByte b [] all)
  one_below (b ∷ c ∷ bytes) e all = absurd (omega arith)

  one_back : (bytes : List ℕ) → length bytes ≡ 1 → from_be_bytes w8 bytes ∷ [] ≡ bytes
  one_back [] e = absurd (omega arith)
  one_back (b ∷ []) e = rw from_one refl
  one_back (b ∷ c ∷ bytes) e = absurd (omega arith)

pub u8_alone : IsFormat u8_format
u8_alone = Rest-format u8_format (bytes_format 1) (from_be_bytes w8) Rest-u8 (bytes_alone 1)

pub u32_alone : IsFormat u32_format
u32_alone = Rest-format u32_format (bytes_format 4) (from_be_bytes w32) Rest-u32 (bytes_alone 4)

pub u64_alone : IsFormat u64_format
u64_alone = Rest-format u64_format (bytes_format 8) (from_be_bytes w64) Rest-u64 (bytes_alone 8)
