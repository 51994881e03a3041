-- What a reader of a format answers and leaves, put together of what the readers of its parts do.
use Rattle.std.proofs.Common.{◌≡◌, ℕ, List, [], ◌∷◌, ◌++◌, length, Result, Ok, Err, refl, sym, ap, subst, ◌∙◌, append_assoc, length-append, arith, inl, inr}
use Rattle.std.specs.Prelude.{IsErrAnd, OnOk}
use Rattle.std.proofs.lemmas.List.{append_cancel_left, append-nil}
use Rattle.std.proofs.lemmas.Result.{on_ok_weaker}
use Rattle.stateful_base.specs.declared.codec.CodecError.{CodecError}
use Rattle.stateful_base.specs.declared.codec.CodecError.TheVariants.{InvalidEnum, EndOfBuffer, OutOfMemory}
use Rattle.stateful_base.specs.FormatLaws.{split, same_first, Rest, Rest-format, both, Rest-both}
use Rattle.stateful_base.specs.Format.{Format, Begins, EndsInside, IsWrong, Stands, answer_with, UnlessMemory, Reads, Writes, IsFormat}

-- ---- lists that begin alike

nothing_more : (xs : List ℕ) (n : ℕ) (front rest : List ℕ) → xs ++ (front ++ n ∷ rest) ≡ xs → ⊥
nothing_more xs n front rest e =
    absurd (omega (arith, simp length-append at (ap length e)))

-- ---- what stands first stands alone

-- what begins with a spelling doesn't end inside another
pub not_inside : {A : Type 0} (f : Format A) → IsFormat f → (x : A) (more : List ℕ) → f.fits x → EndsInside f (f.spelling x ++ more) → ⊥
not_inside f law x more fits inside =
    let y = inside.begins.value in
    let whole : f.spelling x ++ (more ++ inside.next ∷ inside.begins.rest) ≡ f.spelling y = simp append_assoc at inside.begins.whole in
    let same : x ≡ y = law.alone x y (more ++ inside.next ∷ inside.begins.rest) fits inside.begins.fits whole in
    nothing_more (f.spelling x) inside.next more inside.begins.rest (whole ∙ ap f.spelling (sym same))

-- a front of what begins a spelling begins one
pub Begins-front : {A : Type 0} (f : Format A) (front rest : List ℕ) → Begins f (front ++ rest) → Begins f front
Begins-front f front rest begins = record { value = begins.value; rest = rest ++ begins.rest; fits = begins.fits; whole = sym (append_assoc front rest begins.rest) ∙ begins.whole }

-- a byte behind what ends inside a value, and a spelling that stands over both
module _ {A : Type 0} (f : Format A) (law : IsFormat f) (x : A) (fits : f.fits x) where
  begins_over : (front bytes more k : List ℕ) (byte : ℕ) → EndsInside f front → f.spelling x ≡ front ++ k → byte ∷ bytes ≡ k ++ more → Begins f (front ++ byte ∷ [])
  begins_over front bytes more [] byte inside e place =
      let all : front ≡ f.spelling x ++ [] = sym (append-nil front) ∙ sym e ∙ sym (append-nil (f.spelling x)) in
      absurd (not_inside f law x [] fits (subst (EndsInside f) all inside))
  begins_over front bytes more (b ∷ k) byte inside e place =
      let same : b ≡ byte = cc in
      record { value = x; rest = k; fits = fits; whole = append_assoc front (byte ∷ []) k ∙ ap (λ (c : ℕ). front ++ c ∷ k) (sym same) ∙ sym e }

  pub begins_at : (front bytes more : List ℕ) (byte : ℕ) → EndsInside f front → front ++ byte ∷ bytes ≡ f.spelling x ++ more → Begins f (front ++ byte ∷ [])
  begins_at front bytes more byte inside e =
      elim (split front (byte ∷ bytes) (f.spelling x) more e) [
        | inl s ↦ begins_over front bytes more s.0 byte inside s.1 s.2
        | inr s ↦ absurd (not_inside f law x s.0 fits (subst (EndsInside f) s.1 inside))
      ]

  -- where a spelling stands first, no byte is wrong
  pub not_wrong : (more : List ℕ) (byte : ℕ) → IsWrong f (f.spelling x ++ more) byte → ⊥
  not_wrong more byte wrong = wrong.none (begins_at wrong.front wrong.rest more byte wrong.inside (sym wrong.place))

-- what ends inside a value has no wrong byte
pub inside_not_wrong : {A : Type 0} (f : Format A) (bytes : List ℕ) (byte : ℕ) → EndsInside f bytes → IsWrong f bytes byte → ⊥
inside_not_wrong f bytes byte inside wrong =
    let regrouped : bytes ++ inside.next ∷ [] ≡ (wrong.front ++ byte ∷ []) ++ (wrong.rest ++ inside.next ∷ []) =
    ap (λ (b : List ℕ). b ++ inside.next ∷ []) wrong.place ∙ simp append_assoc in
    wrong.none (Begins-front f (wrong.front ++ byte ∷ []) (wrong.rest ++ inside.next ∷ []) (subst (Begins f) regrouped inside.begins))

wrong_before : {A : Type 0} (f : Format A) (front other k rest rest' : List ℕ) (byte byte' : ℕ) → (Begins f (front ++ byte ∷ []) → ⊥) → EndsInside f other
    → other ≡ front ++ k → byte ∷ rest ≡ k ++ byte' ∷ rest' → byte ≡ byte'
wrong_before f front other [] rest rest' byte byte' none inside e place = cc
wrong_before f front other (b ∷ k) rest rest' byte byte' none inside e place =
    let same : b ≡ byte = cc in
    let regrouped : other ++ inside.next ∷ [] ≡ (front ++ byte ∷ []) ++ (k ++ inside.next ∷ []) =
    ap (λ (o : List ℕ). o ++ inside.next ∷ []) (e ∙ ap (λ (c : ℕ). front ++ c ∷ k) same) ∙ simp append_assoc in
    absurd (none (Begins-front f (front ++ byte ∷ []) (k ++ inside.next ∷ []) (subst (Begins f) regrouped inside.begins)))

-- one byte at most is the first wrong one
pub one_wrong : {A : Type 0} (f : Format A) (bytes : List ℕ) (byte byte' : ℕ) → IsWrong f bytes byte → IsWrong f bytes byte' → byte ≡ byte'
one_wrong f bytes byte byte' one other =
    elim (split one.front (byte ∷ one.rest) other.front (byte' ∷ other.rest) (sym one.place ∙ other.place)) [
      | inl s ↦ wrong_before f one.front other.front s.0 one.rest other.rest byte byte' one.none other.inside s.1 s.2
      | inr s ↦ sym (wrong_before f other.front one.front s.0 other.rest one.rest byte' byte other.none one.inside s.1 s.2)
    ]

same_found : {A : Type 0} (f : Format A) (x y : A) (r s : List ℕ) → x ≡ y → f.spelling x ++ r ≡ f.spelling y ++ s → ◌≡◌ {A = Result (A × List ℕ) CodecError} (Ok (x, r)) (Ok (y, s))
same_found f x y r s same e =
    let rests : r ≡ s = append_cancel_left (f.spelling x) r s (e ∙ ap (λ (z : _). f.spelling z ++ s) (sym same)) in
    rw (same, rests) refl

-- one value at most stands first
pub one_found : {A : Type 0} (f : Format A) → IsFormat f → (x y : A) (r s : List ℕ) → f.fits x → f.fits y → f.spelling x ++ r ≡ f.spelling y ++ s
    → ◌≡◌ {A = Result (A × List ℕ) CodecError} (Ok (x, r)) (Ok (y, s))
one_found f law x y r s fits fits' e = same_found f x y r s (same_first f law x y r s fits fits' e) e

-- one thing at most stands first
pub stands_alone : {A : Type 0} (f : Format A) → IsFormat f → (bytes : List ℕ) (one other : Result (A × List ℕ) CodecError) → Stands f bytes one → Stands f bytes other → one ≡ other
stands_alone f law bytes (Ok x) (Ok y) one other = one_found f law x.0 y.0 x.1 y.1 one.0 other.0 (sym one.1 ∙ other.1)
stands_alone f law bytes (Ok x) (Err EndOfBuffer) one other = absurd (not_inside f law x.0 x.1 one.0 (subst (EndsInside f) one.1 other))
stands_alone f law bytes (Ok x) (Err (InvalidEnum b)) one other = absurd (not_wrong f law x.0 one.0 x.1 b (subst (λ (w : List ℕ). IsWrong f w b) one.1 other))
stands_alone f law bytes (Ok x) (Err OutOfMemory) one other = absurd other
stands_alone f law bytes (Err EndOfBuffer) (Ok y) one other = absurd (not_inside f law y.0 y.1 other.0 (subst (EndsInside f) other.1 one))
stands_alone f law bytes (Err EndOfBuffer) (Err EndOfBuffer) one other = refl
stands_alone f law bytes (Err EndOfBuffer) (Err (InvalidEnum b)) one other = absurd (inside_not_wrong f bytes b one other)
stands_alone f law bytes (Err EndOfBuffer) (Err OutOfMemory) one other = absurd other
stands_alone f law bytes (Err (InvalidEnum b)) (Ok y) one other = absurd (not_wrong f law y.0 other.0 y.1 b (subst (λ (w : List ℕ). IsWrong f w b) other.1 one))
stands_alone f law bytes (Err (InvalidEnum b)) (Err EndOfBuffer) one other = absurd (inside_not_wrong f bytes b other one)
stands_alone f law bytes (Err (InvalidEnum b)) (Err (InvalidEnum c)) one other = ap (λ (n : ℕ). Err (InvalidEnum n)) (one_wrong f bytes b c one other)
stands_alone f law bytes (Err (InvalidEnum b)) (Err OutOfMemory) one other = absurd other
stands_alone f law bytes (Err OutOfMemory) other one _ = absurd one

-- ---- a reader's answer, before it is known that nothing else stands first

pub record Met {A : Type 0} (f : Format A) (result : Result A CodecError) (before after : List ℕ) : Type 0 where
  pub first : UnlessMemory result (Stands f before (answer_with result after))
  pub taken : (front : List ℕ) × (before ≡ front ++ after)

met_only : {A : Type 0} (f : Format A) → IsFormat f → (result : Result A CodecError) (before after : List ℕ) → UnlessMemory result (Stands f before (answer_with result after))
    → (other : Result (A × List ℕ) CodecError) → Stands f before other → UnlessMemory result (answer_with result after ≡ other)
met_only f law (Ok x) before after first other stands = stands_alone f law before (Ok (x, after)) other first stands
met_only f law (Err EndOfBuffer) before after first other stands = stands_alone f law before (Err EndOfBuffer) other first stands
met_only f law (Err (InvalidEnum b)) before after first other stands = stands_alone f law before (Err (InvalidEnum b)) other first stands
met_only f law (Err OutOfMemory) before after first other stands = tt

pub reads : {A : Type 0} (f : Format A) → IsFormat f → (result : Result A CodecError) (before after : List ℕ) → Met f result before after → Reads f result before after
reads f law result before after met = record { first = met.first; only = met_only f law result before after met.first; taken = met.taken }

pub met : {A : Type 0} {f : Format A} {result : Result A CodecError} {before after : List ℕ} → Reads f result before after → Met f result before after
met reads = record { first = reads.first; taken = reads.taken }

-- a reader that passes an error on
pub passed : {A : Type 0} (f : Format A) → IsFormat f → (result : Result A CodecError) (error : CodecError) (before after : List ℕ) → IsErrAnd result (λ e. e ≡ error)
    → Met f (Err error) before after → Reads f result before after
passed f law (Ok x) error before after is m = absurd is
passed f law (Err e) error before after is m = subst (λ (d : CodecError). Reads f (Err d) before after) (sym is) (reads f law (Err error) before after m)

-- some bytes were taken, and then some more
pub taken_then : (before mid after : List ℕ) → ((front : List ℕ) × (before ≡ front ++ mid)) → ((front : List ℕ) × (mid ≡ front ++ after)) → (front : List ℕ) × (before ≡ front ++ after)
taken_then before mid after one other = (one.0 ++ other.0, one.1 ∙ ap (λ (w : List ℕ). one.0 ++ w) other.1 ∙ sym (append_assoc one.0 other.0 after))

-- a refusal says nothing of what it leaves, but that some bytes were taken
pub err_leaves : {A : Type 0} (f : Format A) (error : CodecError) (before after after' : List ℕ) → ((front : List ℕ) × (before ≡ front ++ after')) → Met f (Err error) before after → Met f (Err error) before after'
err_leaves f EndOfBuffer before after after' taken m = record { first = m.first; taken = taken }
err_leaves f (InvalidEnum byte) before after after' taken m = record { first = m.first; taken = taken }
err_leaves f OutOfMemory before after after' taken m = record { first = tt; taken = taken }

-- ---- what is left of a format behind some bytes

module _ {A X : Type 0} (whole : Format X) (front : List ℕ) (f : Format A) (into : A → X) (rest : Rest whole front f into) where
  pub Rest-begins : (bytes : List ℕ) → Begins f bytes → Begins whole (front ++ bytes)
  Rest-begins bytes b = record {
    value = into b.value;
    rest = b.rest;
    fits = rest.fits b.value b.fits;
    whole = append_assoc front bytes b.rest ∙ ap (λ (w : List ℕ). front ++ w) b.whole ∙ sym (rest.spelled b.value b.fits);
  }

  begins-Rest : (bytes : List ℕ) → Begins whole (front ++ bytes) → Begins f bytes
  begins-Rest bytes b =
      let regrouped : whole.spelling b.value ≡ front ++ (bytes ++ b.rest) = sym b.whole ∙ append_assoc front bytes b.rest in
      let a = rest.back b.value (bytes ++ b.rest) b.fits regrouped in
      let same : front ++ (bytes ++ b.rest) ≡ front ++ f.spelling a.0 = sym regrouped ∙ ap whole.spelling a.2 ∙ rest.spelled a.0 a.1 in
      record { value = a.0; rest = b.rest; fits = a.1; whole = append_cancel_left front (bytes ++ b.rest) (f.spelling a.0) same }

  Rest-inside : (bytes : List ℕ) → EndsInside f bytes → EndsInside whole (front ++ bytes)
  Rest-inside bytes i = record { next = i.next; begins = subst (Begins whole) (sym (append_assoc front bytes (i.next ∷ []))) (Rest-begins (bytes ++ i.next ∷ []) i.begins) }

  Rest-wrong : (bytes : List ℕ) (byte : ℕ) → IsWrong f bytes byte → IsWrong whole (front ++ bytes) byte
  Rest-wrong bytes byte w = record {
    front = front ++ w.front;
    rest = w.rest;
    place = ap (λ (b : List ℕ). front ++ b) w.place ∙ sym (append_assoc front w.front (byte ∷ w.rest));
    inside = Rest-inside w.front w.inside;
    none = λ b. w.none (begins-Rest (w.front ++ byte ∷ []) (subst (Begins whole) (append_assoc front w.front (byte ∷ [])) b));
  }

  taken_behind : (before mid after : List ℕ) → before ≡ front ++ mid → ((taken : List ℕ) × (mid ≡ taken ++ after)) → (taken : List ℕ) × (before ≡ taken ++ after)
  taken_behind before mid after e taken = (front ++ taken.0, e ∙ ap (λ (b : List ℕ). front ++ b) taken.1 ∙ sym (append_assoc front taken.0 after))

  -- the rest is read, and so the whole
  pub rest_ok : (a : A) (before mid after : List ℕ) → before ≡ front ++ mid → Met f (Ok a) mid after → Met whole (Ok (into a)) before after
  rest_ok a before mid after e m = record {
    first = (rest.fits a m.first.0, e ∙ ap (λ (b : List ℕ). front ++ b) m.first.1 ∙ sym (append_assoc front (f.spelling a) after) ∙ ap (λ (b : List ℕ). b ++ after) (sym (rest.spelled a m.first.0)));
    taken = taken_behind before mid after e m.taken;
  }

  -- the rest is refused, and so the whole
  pub rest_err : (error : CodecError) (before mid after : List ℕ) → before ≡ front ++ mid → Met f (Err error) mid after → Met whole (Err error) before after
  rest_err EndOfBuffer before mid after e m = record { first = subst (EndsInside whole) (sym e) (Rest-inside mid m.first); taken = taken_behind before mid after e m.taken }
  rest_err (InvalidEnum byte) before mid after e m = record { first = subst (λ (b : List ℕ). IsWrong whole b byte) (sym e) (Rest-wrong mid byte m.first); taken = taken_behind before mid after e m.taken }
  rest_err OutOfMemory before mid after e m = record { first = tt; taken = taken_behind before mid after e m.taken }

module _ {A X : Type 0} (whole : Format X) (f : Format A) (into : A → X) (rest : Rest whole [] f into) (law : IsFormat f) where
  -- what is read under other names
  pub renamed : (a : A) (before after : List ℕ) → Met f (Ok a) before after → Reads whole (Ok (into a)) before after
  renamed a before after m = reads whole (Rest-format whole f into rest law) _ before after (rest_ok whole [] f into rest a before before after refl m)

  -- and a refusal of it that is passed on
  pub renamed_err : (result : Result X CodecError) (error : CodecError) (before after : List ℕ) → IsErrAnd result (λ e. e ≡ error) → Met f (Err error) before after → Reads whole result before after
  renamed_err result error before after is m =
      passed whole (Rest-format whole f into rest law) result error before after is (rest_err whole [] f into rest error before before after refl m)

-- ---- one value behind another

module _ {A B : Type 0} (f : Format A) (g : Format B) (law : IsFormat f) where
  pub both_ok : (a : A) (b : B) (before mid after : List ℕ) → Met f (Ok a) before mid → Met g (Ok b) mid after → Met (both f g) (Ok (a, b)) before after
  both_ok a b before mid after one other = rest_ok (both f g) (f.spelling a) g (λ b. (a, b)) (Rest-both f g law a one.first.0) b before mid after one.first.1 other

  pub second_err : (a : A) (error : CodecError) (before mid after : List ℕ) → Met f (Ok a) before mid → Met g (Err error) mid after → Met (both f g) (Err error) before after
  second_err a error before mid after one other = rest_err (both f g) (f.spelling a) g (λ b. (a, b)) (Rest-both f g law a one.first.0) error before mid after one.first.1 other

  -- what begins a first value, with some second one
  begins_both : (law' : IsFormat g) (bytes : List ℕ) → Begins f bytes → Begins (both f g) bytes
  begins_both law' bytes b = record {
    value = (b.value, law'.some.0);
    rest = b.rest ++ g.spelling law'.some.0;
    fits = (b.fits, law'.some.1);
    whole = sym (append_assoc bytes b.rest (g.spelling law'.some.0)) ∙ ap (λ (w : List ℕ). w ++ g.spelling law'.some.0) b.whole;
  }

  inside_both : (law' : IsFormat g) (bytes : List ℕ) → EndsInside f bytes → EndsInside (both f g) bytes
  inside_both law' bytes i = record { next = i.next; begins = begins_both law' (bytes ++ i.next ∷ []) i.begins }

  wrong_both : (law' : IsFormat g) (bytes : List ℕ) (byte : ℕ) → IsWrong f bytes byte → IsWrong (both f g) bytes byte
  wrong_both law' bytes byte w = record {
    front = w.front;
    rest = w.rest;
    place = w.place;
    inside = inside_both law' w.front w.inside;
    none = λ b. w.none (begins_at f law b.value.0 b.fits.0 w.front b.rest (g.spelling b.value.1) byte w.inside (sym (append_assoc w.front (byte ∷ []) b.rest) ∙ b.whole));
  }

  pub first_err : (law' : IsFormat g) (error : CodecError) (before after : List ℕ) → Met f (Err error) before after → Met (both f g) (Err error) before after
  first_err law' EndOfBuffer before after m = record { first = inside_both law' before m.first; taken = m.taken }
  first_err law' (InvalidEnum byte) before after m = record { first = wrong_both law' before byte m.first; taken = m.taken }
  first_err law' OutOfMemory before after m = record { first = tt; taken = m.taken }

-- ---- writing

-- a value behind another
pub write_both : {A B E : Type 0} (f : Format A) (g : Format B) (a : A) (b : B) (result : Result (Unit {0}) E) (before mid after : List ℕ)
    → f.fits a → mid ≡ before ++ f.spelling a → Writes g b result mid after → Writes (both f g) (a, b) result before after
write_both f g a b result before mid after fits e w = record {
  fits = on_ok_weaker result (λ (fits' : g.fits b). (fits, fits')) w.fits;
  appended = on_ok_weaker result (λ (e' : after ≡ mid ++ g.spelling b). e' ∙ ap (λ (m : List ℕ). m ++ g.spelling b) e ∙ append_assoc before (f.spelling a) (g.spelling b)) w.appended;
  kept = (f.spelling a ++ w.kept.0, w.kept.1 ∙ ap (λ (m : List ℕ). m ++ w.kept.0) e ∙ append_assoc before (f.spelling a) w.kept.0);
}

-- a value under another name, behind some bytes that belong to it
pub write_rest : {A X E : Type 0} (whole : Format X) (front : List ℕ) (f : Format A) (into : A → X) → Rest whole front f into → (a : A) (result : Result (Unit {0}) E) (before mid after : List ℕ)
    → mid ≡ before ++ front → Writes f a result mid after → Writes whole (into a) result before after
write_rest whole front f into rest a result before mid after e w = record {
  fits = on_ok_weaker result (rest.fits a) w.fits;
  appended = ok_both result w.fits w.appended (λ (fits : f.fits a) (e' : after ≡ mid ++ f.spelling a).
      e' ∙ ap (λ (m : List ℕ). m ++ f.spelling a) e ∙ append_assoc before front (f.spelling a) ∙ ap (λ (m : List ℕ). before ++ m) (sym (rest.spelled a fits)));
  kept = (front ++ w.kept.0, w.kept.1 ∙ ap (λ (m : List ℕ). m ++ w.kept.0) e ∙ append_assoc before front w.kept.0);
} where
  ok_both : {E P Q R : Type 0} (result : Result (Unit {0}) E) → OnOk result P → OnOk result Q → (P → Q → R) → OnOk result R
  ok_both (Ok x) p q h = h p q
  ok_both (Err x) p q h = p
