-- Byte strings in bytes.
use Rattle.std.proofs.Common.{◌≡◌, ℕ, ◌<◌, ◌^◌, List, [], ◌++◌, length, All, sym, ap, ◌∙◌}
use Rattle.std.proofs.Common.{arith, length-append, append_assoc}
use Rattle.std.proofs.lemmas.List.{append-nil, append_cancel_left, nil_from_length}
use Rattle.std.proofs.lemmas.List.Elements.{All-nil}
use Rattle.stateful_base.specs.Format.{Format, IsFormat}
use Rattle.stateful_base.specs.FormatLaws.{same_first}
use Rattle.stateful_base.specs.FixedLaws.{u32_alone, IsByte}
use Rattle.stateful_base.specs.Number.{u32_format}

-- at most 65,535 bytes, behind their number in four bytes
abbrev pub blob_format : Format (List ℕ)
blob_format = record {
  fits = λ bytes. (length bytes < 2 ^ 16) × All (λ b. b < 2 ^ 8) bytes;
  spelling = λ bytes. u32_format.spelling (length bytes) ++ bytes;
}

pub blob_alone : IsFormat blob_format
blob_alone = record {
  some = ([], (omega arith, All-nil IsByte));
  alone = λ x y rest fits fits' e. same x y rest fits.0 fits'.0 e;
} where
  same : (x y rest : List ℕ)
      → length x < 2 ^ 16
      → length y < 2 ^ 16
      → blob_format.spelling x ++ rest ≡ blob_format.spelling y
      → x ≡ y
  same x y rest low low' e =
      let front : List ℕ = u32_format.spelling (length x) in
      let e' : front ++ (x ++ rest) ≡ u32_format.spelling (length y) ++ y =
      sym (append_assoc front x rest) ∙ e in
      let count : length x ≡ length y =
      same_first u32_format u32_alone (length x) (length y) (x ++ rest) y (omega arith) (omega arith)
      e' in
      let behind : x ++ rest ≡ y =
      append_cancel_left front (x ++ rest) y
      (e' ∙ ap (λ n. u32_format.spelling n ++ y) (sym count)) in
      let none : rest ≡ [] =
      nil_from_length rest (omega (arith, count, simp length-append at (ap length behind))) in
      sym (append-nil x) ∙ ap (λ (r : List ℕ). x ++ r) (sym none) ∙ behind
