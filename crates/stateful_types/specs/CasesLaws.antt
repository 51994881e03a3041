-- Formats whose first byte says which case it is: that they are formats, and what stands behind
-- each byte.
use Rattle.std.proofs.Common.{◌≡◌, ℕ, ◌<◌, ◌^◌, List, [], ◌∷◌, ◌++◌, refl, sym, ap, subst, ◌∙◌, inl}
use Rattle.std.proofs.Common.{inr, arith}
use Rattle.std.proofs.lemmas.List.{append-nil}
use Rattle.std.specs.Prelude.{◌⊎◌}
use Rattle.stateful_base.specs.Format.{Format, IsFormat}
use Rattle.stateful_base.specs.FormatLaws.{Rest, Rest-then, Rest-whole, Rest-format}
use Rattle.stateful_types.specs.Cases.{nothing, tagged, either, either_fits, either_bytes}
use Rattle.stateful_types.specs.Cases.{two_cases, IsTaggedBy}

pub nothing_alone : IsFormat nothing
nothing_alone = record { some = (tt, tt); alone = λ x y rest _ _ _. refl }

-- ---- one case

pub only_case : {A : Type 0} (tag : ℕ) (f : Format A) → Rest (tagged tag f) (tag ∷ []) f (λ a. a)
only_case tag f =
    record
    { fits = λ a fits. fits; spelled = λ a fits. refl; back = λ a bytes fits e. (a, fits, refl) }

pub only_tag : {A : Type 0} (tag : ℕ) (f : Format A)
    → tag < 2 ^ 8
    → IsFormat f
    → IsTaggedBy (tagged tag f) (λ n. n ≡ tag)
only_tag tag f byte law = record {
  law =
      Rest-whole (tagged tag f) (tag ∷ []) f (λ a. a) (only_case tag f)
      (λ a fits. (f.spelling a, refl)) law;
  begins = λ a fits. (tag, f.spelling a, refl, refl);
  bytes = λ n e. rw e byte;
}

-- ---- the cases of one format or of another

module _ {A B : Type 0} {f : Format A} {g : Format B} {Left Right : ℕ → Type 0}
    (one : IsTaggedBy f Left) (other : IsTaggedBy g Right)
    (apart : (n : ℕ) → Left n → Right n → ⊥) where
  -- no value of one begins as one of the other
  begin_apart : (a : A) (b : B) (r s : List ℕ)
      → f.fits a
      → g.fits b
      → f.spelling a ++ r ≡ g.spelling b ++ s
      → ⊥
  begin_apart a b r s fits fits' e =
      let p = one.begins a fits in
      let q = other.begins b fits' in
      let begin : p.0 ∷ (p.1 ++ r) ≡ q.0 ∷ (q.1 ++ s) =
      ap (λ (w : List ℕ). w ++ r) (sym p.3) ∙ e ∙ ap (λ (w : List ℕ). w ++ s) q.3 in
      let same : p.0 ≡ q.0 = cc in
      apart q.0 (subst Left same p.2) q.2

  either_alone : (x y : A ⊎ B) (rest : List ℕ)
      → either_fits f g x
      → either_fits f g y
      → either_bytes f g x ++ rest ≡ either_bytes f g y
      → x ≡ y
  either_alone (inl a) (inl b) rest fits fits' e = ap inl (one.law.alone a b rest fits fits' e)
  either_alone (inl a) (inr b) rest fits fits' e =
      absurd (begin_apart a b rest [] fits fits' (e ∙ sym (append-nil (g.spelling b))))
  either_alone (inr a) (inl b) rest fits fits' e =
      absurd (begin_apart b a [] rest fits' fits (append-nil (f.spelling b) ∙ sym e))
  either_alone (inr a) (inr b) rest fits fits' e = ap inr (other.law.alone a b rest fits fits' e)

  either_begins : (x : A ⊎ B)
      → either_fits f g x
      → (tag : ℕ) × (rest : List ℕ) × (Left tag ⊎ Right tag) × (either_bytes f g x ≡ tag ∷ rest)
  either_begins (inl a) fits = let p = one.begins a fits in (p.0, p.1, inl p.2, p.3)
  either_begins (inr b) fits = let q = other.begins b fits in (q.0, q.1, inr q.2, q.3)

  either_small : (tag : ℕ) → Left tag ⊎ Right tag → tag < 2 ^ 8
  either_small tag (inl is) = one.bytes tag is
  either_small tag (inr is) = other.bytes tag is

  pub either_tags : IsTaggedBy (either f g) (λ n. Left n ⊎ Right n)
  either_tags = record {
    law = record { some = (inl one.law.some.0, one.law.some.1); alone = either_alone };
    begins = either_begins;
    bytes = either_small;
  }

  pub left_case : {E : Type 0} {e : Format E} {into : E → A} (tag : ℕ)
      → Left tag
      → Rest f (tag ∷ []) e into
      → Rest (either f g) (tag ∷ []) e (λ x. inl (into x))
  left_case {E} {e} {into} tag is case =
      record { fits = case.fits; spelled = case.spelled; back = back } where
        back : (x : A ⊎ B) (bytes : List ℕ)
            → either_fits f g x
            → either_bytes f g x ≡ tag ∷ bytes
            → (v : E) × e.fits v × (x ≡ inl (into v))
        back (inl a) bytes fits begins = let v = case.back a bytes fits begins in (v.0, v.1, ap inl v.2)
        back (inr b) bytes fits begins =
            let q = other.begins b fits in
            let same : tag ≡ q.0 = cc in
            absurd (apart q.0 (subst Left same is) q.2)

  pub right_case : {E : Type 0} {e : Format E} {into : E → B} (tag : ℕ)
      → Right tag
      → Rest g (tag ∷ []) e into
      → Rest (either f g) (tag ∷ []) e (λ x. inr (into x))
  right_case {E} {e} {into} tag is case =
      record { fits = case.fits; spelled = case.spelled; back = back } where
        back : (x : A ⊎ B) (bytes : List ℕ)
            → either_fits f g x
            → either_bytes f g x ≡ tag ∷ bytes
            → (v : E) × e.fits v × (x ≡ inr (into v))
        back (inr b) bytes fits begins = let v = case.back b bytes fits begins in (v.0, v.1, ap inr v.2)
        back (inl a) bytes fits begins =
            let p = one.begins a fits in
            let same : p.0 ≡ tag = cc in
            absurd (apart tag (subst Left same p.2) is)

-- ---- a format whose values are those of another, under other names

pub named_tags : {A X : Type 0} {whole : Format X} {f : Format A} {into : A → X} {Tag : ℕ → Type 0}
    → Rest whole [] f into
    → IsTaggedBy f Tag
    → IsTaggedBy whole Tag
named_tags {whole = whole} {f = f} {into = into} names tags = record {
  law = Rest-format whole f into names tags.law;
  begins = λ x fits.
      let a = names.back x (whole.spelling x) fits refl in
      let b = tags.begins a.0 a.1 in
      (b.0, b.1, b.2, ap whole.spelling a.2 ∙ names.spelled a.0 a.1 ∙ b.3);
  bytes = tags.bytes;
}

pub named_case : {A B X : Type 0} {whole : Format X} {f : Format A} {into : A → X} {g : Format B}
    {into' : B → A} {tag : ℕ}
    → Rest whole [] f into
    → Rest f (tag ∷ []) g into'
    → Rest whole (tag ∷ []) g (λ b. into (into' b))
named_case {whole = whole} {f = f} {into = into} {g = g} {into' = into'} {tag = tag} names case =
    Rest-then whole [] f into (tag ∷ []) g into' names case

-- ---- two cases

-- The values are those of two cases, under other names. The bytes ascend, and what stands behind
-- each is of a format.
pub record HasTwoCases {A B X : Type 0} (whole : Format X) (tag : ℕ) (f : Format A) (other : ℕ)
    (g : Format B) (into : A ⊎ B → X) : Type 0 where
  pub names : Rest whole [] (two_cases tag f other g) into
  pub up : tag < other
  pub byte : other < 2 ^ 8
  pub first : IsFormat f
  pub second : IsFormat g

module _ {A B X : Type 0} {whole : Format X} {tag other : ℕ} {f : Format A} {g : Format B}
    {into : A ⊎ B → X} (cases : HasTwoCases whole tag f other g into) where
  one : IsTaggedBy (tagged tag f) (λ n. n ≡ tag)
  one = only_tag tag f (let up = cases.up in let byte = cases.byte in omega arith) cases.first

  two : IsTaggedBy (tagged other g) (λ n. n ≡ other)
  two = only_tag other g cases.byte cases.second

  apart : (n : ℕ) → n ≡ tag → n ≡ other → ⊥
  apart n e e' = let up = cases.up in absurd (omega arith)

  -- each value's first byte is one of the two
  pub two_tags : IsTaggedBy whole (λ n. (n ≡ tag) ⊎ (n ≡ other))
  two_tags = named_tags cases.names (either_tags one two apart)

  -- what stands behind the first of them
  pub first_case : Rest whole (tag ∷ []) f (λ a. into (inl a))
  first_case = named_case cases.names (left_case one two apart tag refl (only_case tag f))

  -- and behind the second
  pub second_case : Rest whole (other ∷ []) g (λ b. into (inr b))
  second_case = named_case cases.names (right_case one two apart other refl (only_case other g))

-- ---- three cases

-- The same of three cases.
pub record HasThreeCases {A B C X : Type 0} (whole : Format X) (tag : ℕ) (f : Format A) (other : ℕ)
    (g : Format B) (last : ℕ) (h : Format C) (into : A ⊎ (B ⊎ C) → X) : Type 0 where
  pub names : Rest whole [] (either (tagged tag f) (two_cases other g last h)) into
  pub up : tag < other
  pub further : other < last
  pub byte : last < 2 ^ 8
  pub first : IsFormat f
  pub second : IsFormat g
  pub third : IsFormat h

module _ {A B C X : Type 0} {whole : Format X} {tag other last : ℕ} {f : Format A} {g : Format B}
    {h : Format C} {into : A ⊎ (B ⊎ C) → X}
    (cases : HasThreeCases whole tag f other g last h into) where
  alone : IsTaggedBy (tagged tag f) (λ n. n ≡ tag)
  alone =
      only_tag tag f
      (let up = cases.up in let further = cases.further in let byte = cases.byte in omega arith)
      cases.first

  others : HasTwoCases (two_cases other g last h) other g last h (λ s. s)
  others = record {
    names =
        record {
          fits =
              λ s fits. fits;
          spelled = λ s fits. refl;
          back = λ s bytes fits e. (s, fits, refl);
        };
    up = cases.further;
    byte = cases.byte;
    first = cases.second;
    second = cases.third;
  }

  away : (n : ℕ) → n ≡ tag → (n ≡ other) ⊎ (n ≡ last) → ⊥
  away n e is = let up = cases.up in let further = cases.further in absurd (omega arith)

  pub three_tags : IsTaggedBy whole (λ n. (n ≡ tag) ⊎ ((n ≡ other) ⊎ (n ≡ last)))
  three_tags = named_tags cases.names (either_tags alone (two_tags others) away)

  pub first_of_three : Rest whole (tag ∷ []) f (λ a. into (inl a))
  first_of_three =
      named_case cases.names (left_case alone (two_tags others) away tag refl (only_case tag f))

  pub second_of_three : Rest whole (other ∷ []) g (λ b. into (inr (inl b)))
  second_of_three =
      named_case cases.names
      (right_case alone (two_tags others) away other (inl refl) (first_case others))

  pub third_of_three : Rest whole (last ∷ []) h (λ c. into (inr (inr c)))
  third_of_three =
      named_case cases.names
      (right_case alone (two_tags others) away last (inr refl) (second_case others))
