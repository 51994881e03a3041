-- Entries by ascending key are a format.
use Rattle.std.proofs.Common.{◌≡◌, ℕ, zero, suc, ◌+◌, ◌^◌, ◌<◌, ◌≤◌, List, [], ◌∷◌, ◌++◌, length}
use Rattle.std.proofs.Common.{refl, sym, ap, subst, ◌∙◌, append_assoc, arith}
use Rattle.std.proofs.lemmas.List.{append_cancel_left}
use Rattle.std.specs.Int.{w64, to_be_bytes}
use Rattle.stateful_base.specs.Format.{IsFormat}
use Rattle.stateful_base.specs.FormatLaws.{Rest, Rest-alone, same_first}
use Rattle.stateful_base.specs.FixedLaws.{u32_alone, u64_alone}
use Rattle.stateful_base.specs.Number.{u32_format, u64_format}
use Rattle.stateful_db_plain.specs.Whole.{entry_bytes}
use Rattle.stateful_db_plain.specs.Ops.{AscendFrom, entries_format, op_format}

-- so many entries, from a key on
abbrev pub filled : ℕ → ℕ → List (ℕ × ℕ)
filled zero least = []
filled (suc n) least = (least, 0) ∷ filled n (least + 1)

pub filled_fits : (n least : ℕ)
    → least + n ≤ 2 ^ 64
    → (entries_format n least).fits (filled n least)
filled_fits zero least room = (refl, tt)
filled_fits (suc n) least room =
    let rest = filled_fits n (least + 1) (omega arith) in
    let same : least ≤ least = omega arith in
    let small : least < 2 ^ 64 = omega arith in
    let none : 0 < 2 ^ 64 = omega arith in
    (ap suc rest.0, (same, (small, (none, rest.1))))

-- behind the least key there is room for as many as there are
pub has_room : (least : ℕ) (es : List (ℕ × ℕ))
    → least ≤ 2 ^ 64
    → AscendFrom least es
    → least + length es ≤ 2 ^ 64
has_room least [] small up = omega arith
has_room least (e ∷ es) small up =
    let rest = has_room (e.0 + 1) es (omega (arith, up.1.0)) up.1.1.1 in omega (arith, up.0)

entries_same : (a b : ℕ) (es fs : List (ℕ × ℕ)) (rest : List ℕ)
    → length es ≡ length fs
    → AscendFrom a es
    → AscendFrom b fs
    → entry_bytes es ++ rest ≡ entry_bytes fs
    → es ≡ fs
entries_same a b [] [] rest len up up' e = refl
entries_same a b [] (f ∷ fs) rest len up up' e = absurd (omega arith)
entries_same a b (e ∷ es) [] rest len up up' is = absurd (omega arith)
entries_same a b (e ∷ es) (f ∷ fs) rest len up up' is =
    let key = to_be_bytes w64 e.0 in
    let value = to_be_bytes w64 e.1 in
    let key' = to_be_bytes w64 f.0 in
    let value' = to_be_bytes w64 f.1 in
    let more = entry_bytes es ++ rest in
    let whole : key ++ (value ++ more) ≡ key' ++ (value' ++ entry_bytes fs) =
    sym (append_assoc key value more) ∙ sym (append_assoc (key ++ value) (entry_bytes es) rest) ∙ is
    ∙ append_assoc key' value' (entry_bytes fs) in
    let keys : e.0 ≡ f.0 =
    same_first u64_format u64_alone e.0 f.0 (value ++ more) (value' ++ entry_bytes fs)
    up.1.0 up'.1.0 whole in
    let behind : value ++ more ≡ value' ++ entry_bytes fs =
    append_cancel_left key (value ++ more) (value' ++ entry_bytes fs)
    (whole ∙ ap (λ k. to_be_bytes w64 k ++ (value' ++ entry_bytes fs)) (sym keys)) in
    let values : e.1 ≡ f.1 =
    same_first u64_format u64_alone e.1 f.1 more (entry_bytes fs) up.1.1.0 up'.1.1.0 behind in
    let others : more ≡ entry_bytes fs =
    append_cancel_left value more (entry_bytes fs)
    (behind ∙ ap (λ v. to_be_bytes w64 v ++ entry_bytes fs) (sym values)) in
    let tails : es ≡ fs =
    entries_same (e.0 + 1) (f.0 + 1) es fs rest (omega arith) up.1.1.1 up'.1.1.1 others in
    λ i. (keys i, values i) ∷ tails i

pub entries_alone : (n least : ℕ) → least + n ≤ 2 ^ 64 → IsFormat (entries_format n least)
entries_alone n least room = record {
  some = (filled n least, filled_fits n least room);
  alone = λ es fs rest fits fits' e.
      entries_same least least es fs rest (fits.0 ∙ sym fits'.0) fits.1 fits'.1 e;
}

-- behind their number stand the entries
pub Rest-count : (n : ℕ)
    → n < 2 ^ 32
    → Rest op_format (u32_format.spelling n) (entries_format n 0) (λ es. es)
Rest-count n small = record {
  fits = λ es fits. (subst (λ (k : ℕ). k < 2 ^ 32) (sym fits.0) small, fits.1);
  spelled = λ es fits. ap (λ (k : ℕ). u32_format.spelling k ++ entry_bytes es) fits.0;
  back = λ es bytes fits e. (
    es,
    (
      same_first u32_format u32_alone (length es) n (entry_bytes es) bytes fits.0 small e,
      fits.1,
    ),
    refl,
  );
}

pub op_alone : IsFormat op_format
op_alone = record {
  some = let none : 0 < 2 ^ 32 = omega arith in ([], (none, tt));
  alone = λ es fs rest fits fits' e.
      Rest-alone op_format (u32_format.spelling (length es)) (entries_format (length es) 0)
      (λ xs. xs) (Rest-count (length es) fits.0)
      (entries_alone (length es) 0 (has_room 0 es (omega arith) fits.1)) es fs rest
      (entry_bytes es) fits fits' refl e;
}
