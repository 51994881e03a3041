-- which locations can be read
use Rattle.std.proofs.Common.{◌≡◌, ℕ, zero, suc, ◌+◌, ◌≤◌, nat_lt, inl, inr, List, [], ◌∷◌, length, drop, take, map, ◌++◌, Option, Some, None, refl, sym, ap, ◌∙◌, arith, slice_get}
use Rattle.std.specs.Bool.{if◌then◌else◌}
use Rattle.std.specs.Option.{option_or}
use Rattle.stateful_base.specs.declared.number.Location.{Location}
use Rattle.stateful_db.specs.declared.batch.BatchError.TheVariants.{LocationOutOfBounds, BelowInactivityFloor}
use Rattle.stateful_db_log.proofs.Slices.{cases, test-false}
use Rattle.stateful_db_keyless.specs.Reads.{out_of_order, unreadable, first_unreadable, refusal}

-- the last one alone
pub order_last : (i : ℕ) (all : List Location) → length all ≤ i + 1 → out_of_order (drop i all) ≡ None
order_last zero [] short = refl
order_last zero (x ∷ []) short = refl
order_last zero (x ∷ y ∷ all) short = absurd (omega arith)
order_last (suc i) [] short = refl
order_last (suc i) (x ∷ all) short = order_last i all (omega arith)

-- the value at one location more
pub next_value : {Y : Type 0} (read : Location → Y) (values : List Y) (all : List Location) (i : ℕ) (at : Location) (value : Y) → values ≡ map read (take i all) → slice_get all i ≡ Some at → value ≡ read at
    → values ++ value ∷ [] ≡ map read (take (i + 1) all)
next_value read values all i at value so_far is one = ap (λ vs. vs ++ value ∷ []) so_far ∙ go all i is
  where
    go : (all : List Location) (i : ℕ) → slice_get all i ≡ Some at → map read (take i all) ++ value ∷ [] ≡ map read (take (i + 1) all)
    go [] i is = cc
    go (x ∷ all) zero is = let same : x ≡ at = cc in ap (λ v. v ∷ []) (one ∙ ap read (sym same))
    go (x ∷ all) (suc i) is =
        let next : suc i + 1 ≡ suc (i + 1) = omega arith in
        ap (λ vs. read x ∷ vs) (go all i is) ∙ sym (ap (λ n. map read (take n (x ∷ all))) next)

-- a location that can be read isn't below the floor
readable_low : (floor end : ℕ) (at : Location) → unreadable floor end at ≡ None → floor ≤ at.0
readable_low floor end at h = elim (cases (nat_lt at.0 end)) [
  | inl within ↦ low (sym (ap (λ b. if b then (if nat_lt at.0 floor then Some (BelowInactivityFloor at) else None) else Some (LocationOutOfBounds at)) within) ∙ h)
  | inr past ↦ let both : Some (LocationOutOfBounds at) ≡ None = sym (ap (λ b. if b then (if nat_lt at.0 floor then Some (BelowInactivityFloor at) else None) else Some (LocationOutOfBounds at)) past) ∙ h in cc
]
  where
    low : (if nat_lt at.0 floor then Some (BelowInactivityFloor at) else None) ≡ None → floor ≤ at.0
    low e = elim (cases (nat_lt at.0 floor)) [
      | inl below ↦ let both : Some (BelowInactivityFloor at) ≡ None = sym (ap (λ b. if b then Some (BelowInactivityFloor at) else None) below) ∙ e in cc
      | inr above ↦ test-false at.0 floor above
    ]

first_none : {X : Type 0} (a b : Option X) → option_or a b ≡ None → a ≡ None
first_none None b h = refl
first_none (Some x) b h = cc

second_none : {X : Type 0} (a b : Option X) → option_or a b ≡ None → b ≡ None
second_none None b h = h
second_none (Some x) b h = cc

-- none of those that can be read is below the floor
pub each_low : (floor end : ℕ) (all : List Location) (i : ℕ) (at : Location) → refusal floor end all ≡ None → slice_get all i ≡ Some at → floor ≤ at.0
each_low floor end all i at h is = go all i (second_none _ (first_unreadable floor end all) h) is
  where
    go : (all : List Location) (i : ℕ) → first_unreadable floor end all ≡ None → slice_get all i ≡ Some at → floor ≤ at.0
    go [] i h is = cc
    go (x ∷ all) zero h is =
        let same : x ≡ at = cc in
        let low = readable_low floor end x (first_none (unreadable floor end x) (first_unreadable floor end all) h) in
        omega (arith, ap (λ (l : Location). l.0) same, low)
    go (x ∷ all) (suc i) h is = go all i (second_none (unreadable floor end x) (first_unreadable floor end all) h) is
