-- That a format has some value and that no spelling begins another, by the same of its parts.
use Rattle.std.proofs.Common.{◌≡◌, ℕ, List, [], ◌∷◌, ◌++◌, refl, sym, ap, ◌∙◌, append_assoc, inl}
use Rattle.std.proofs.Common.{inr}
use Rattle.std.specs.Prelude.{◌⊎◌}
use Rattle.std.proofs.lemmas.List.{append_cancel_left}
use Rattle.stateful_base.specs.Format.{Format, IsFormat}

-- where two lists joined are two others joined, one of the fronts begins the other
pub split : (a b c d : List ℕ)
    → a ++ b ≡ c ++ d
    → ((m : List ℕ) × (c ≡ a ++ m) × (b ≡ m ++ d)) ⊎ ((m : List ℕ) × (a ≡ c ++ m) × (d ≡ m ++ b))
split [] b c d e = inl (c, refl, e)
split (x ∷ a) b [] d e = inr (x ∷ a, refl, sym e)
split (x ∷ a) b (y ∷ c) d e =
    let heads : x ≡ y = cc in
    let tails : a ++ b ≡ c ++ d = cc in
    elim (split a b c d tails) [
      | inl s ↦ inl (s.0, rw (heads, s.1) refl, s.2)
      | inr s ↦ inr (s.0, rw (heads, s.1) refl, s.2)
    ]

-- where two joined spellings begin alike, their first values are the same
pub same_first : {A : Type 0} (f : Format A)
    → IsFormat f
    → (x y : A) (bytes bytes' : List ℕ)
    → f.fits x
    → f.fits y
    → f.spelling x ++ bytes ≡ f.spelling y ++ bytes'
    → x ≡ y
same_first f law x y bytes bytes' fits fits' e =
    elim (split (f.spelling x) bytes (f.spelling y) bytes' e) [
      | inl m ↦ law.alone x y m.0 fits fits' (sym m.1)
      | inr m ↦ sym (law.alone y x m.0 fits' fits (sym m.1))
    ]

-- ---- what is left of a format behind some bytes

-- Behind these bytes the values of one format are those of another.
pub record Rest {A X : Type 0} (whole : Format X) (front : List ℕ) (f : Format A)
    (into : A → X) : Type 0 where
  pub fits : (a : A) → f.fits a → whole.fits (into a)
  pub spelled : (a : A) → f.fits a → whole.spelling (into a) ≡ front ++ f.spelling a
  pub back : (x : X) (bytes : List ℕ)
      → whole.fits x
      → whole.spelling x ≡ front ++ bytes
      → (a : A) × f.fits a × (x ≡ into a)

-- a rest of a rest
pub Rest-then : {A B X : Type 0} (whole : Format X) (front : List ℕ) (f : Format A) (into : A → X)
    (behind : List ℕ) (g : Format B) (into' : B → A)
    → Rest whole front f into
    → Rest f behind g into'
    → Rest whole (front ++ behind) g (λ b. into (into' b))
Rest-then whole front f into behind g into' one other = record {
  fits = λ b fits. one.fits (into' b) (other.fits b fits);
  spelled =
      λ b fits. one.spelled (into' b) (other.fits b fits)
      ∙ ap (λ (w : List ℕ). front ++ w) (other.spelled b fits)
      ∙ sym (append_assoc front behind (g.spelling b));
  back = λ x bytes fits e.
      let regrouped : whole.spelling x ≡ front ++ (behind ++ bytes) =
      e ∙ append_assoc front behind bytes in
      let a = one.back x (behind ++ bytes) fits regrouped in
      let spelled : f.spelling a.0 ≡ behind ++ bytes =
      append_cancel_left front (f.spelling a.0) (behind ++ bytes)
      (sym (one.spelled a.0 a.1) ∙ ap whole.spelling (sym a.2) ∙ regrouped) in
      let b = other.back a.0 bytes a.1 spelled in
      (b.0, b.1, a.2 ∙ ap into b.2);
}

-- two values of a format that both have a rest behind the same bytes
pub Rest-alone : {A X : Type 0} (whole : Format X) (front : List ℕ) (f : Format A) (into : A → X)
    → Rest whole front f into
    → IsFormat f
    → (x y : X) (more bytes : List ℕ)
    → whole.fits x
    → whole.fits y
    → whole.spelling x ≡ front ++ bytes
    → whole.spelling x ++ more ≡ whole.spelling y
    → x ≡ y
Rest-alone whole front f into rest law x y more bytes fits fits' begins e =
    let a = rest.back x bytes fits begins in
    let e' : whole.spelling y ≡ front ++ (bytes ++ more) =
    sym e ∙ ap (λ (w : List ℕ). w ++ more) begins ∙ append_assoc front bytes more in
    let b = rest.back y (bytes ++ more) fits' e' in
    let one : bytes ≡ f.spelling a.0 =
    append_cancel_left front bytes (f.spelling a.0)
    (sym begins ∙ ap whole.spelling a.2 ∙ rest.spelled a.0 a.1) in
    let other : bytes ++ more ≡ f.spelling b.0 =
    append_cancel_left front (bytes ++ more) (f.spelling b.0)
    (sym e' ∙ ap whole.spelling b.2 ∙ rest.spelled b.0 b.1) in
    let same : a.0 ≡ b.0 =
    law.alone a.0 b.0 more a.1 b.1 (ap (λ (w : List ℕ). w ++ more) (sym one) ∙ other) in
    a.2 ∙ ap into same ∙ sym b.2

-- a format whose spellings all begin with the same bytes, behind which stands a value of another
pub Rest-whole : {A X : Type 0} (whole : Format X) (front : List ℕ) (f : Format A) (into : A → X)
    → Rest whole front f into
    → ((x : X) → whole.fits x → (bytes : List ℕ) × (whole.spelling x ≡ front ++ bytes))
    → IsFormat f
    → IsFormat whole
Rest-whole whole front f into rest begins law = record {
  some = (into law.some.0, rest.fits law.some.0 law.some.1);
  alone =
      λ x y more fits fits' e. let b =
      begins x fits in Rest-alone whole front f into rest law x y more b.0 fits fits' b.1 e;
}

-- a format whose values are those of another, under other names
pub Rest-format : {A X : Type 0} (whole : Format X) (f : Format A) (into : A → X)
    → Rest whole [] f into
    → IsFormat f
    → IsFormat whole
Rest-format whole f into rest law =
    Rest-whole whole [] f into rest (λ x fits. (whole.spelling x, refl)) law

-- ---- one value behind another

abbrev pub both : {A B : Type 0} → Format A → Format B → Format (A × B)
both f g =
    record { fits = λ p. f.fits p.0 × g.fits p.1; spelling = λ p. f.spelling p.0 ++ g.spelling p.1 }

module _ {A B : Type 0} (f : Format A) (g : Format B) (law : IsFormat f) where
  -- behind the first value stands the second
  pub Rest-both : (a : A) → f.fits a → Rest (both f g) (f.spelling a) g (λ b. (a, b))
  Rest-both a fits = record {
    fits = λ b fits'. (fits, fits');
    spelled = λ b _. refl;
    back = λ p bytes fits' e.
        let same : p.0 ≡ a = same_first f law p.0 a (g.spelling p.1) bytes fits'.0 fits e in
        (p.1, fits'.1, ap (λ (z : A). (z, p.1)) same);
  }

  pub IsFormat-both : IsFormat g → IsFormat (both f g)
  IsFormat-both law' = record {
    some = ((law.some.0, law'.some.0), (law.some.1, law'.some.1));
    alone = λ p q rest fits fits' e.
        let e' : f.spelling p.0 ++ (g.spelling p.1 ++ rest) ≡ f.spelling q.0 ++ g.spelling q.1 =
        sym (append_assoc (f.spelling p.0) (g.spelling p.1) rest) ∙ e in
        let same : p.0 ≡ q.0 =
        same_first f law p.0 q.0 (g.spelling p.1 ++ rest) (g.spelling q.1) fits.0 fits'.0 e' in
        let other : g.spelling p.1 ++ rest ≡ g.spelling q.1 =
        append_cancel_left (f.spelling p.0) (g.spelling p.1 ++ rest) (g.spelling q.1)
        (e' ∙ ap (λ (z : A). f.spelling z ++ g.spelling q.1) (sym same)) in
        let same' : p.1 ≡ q.1 = law'.alone p.1 q.1 rest fits.1 fits'.1 other in
        rw (same, same') refl;
  }
