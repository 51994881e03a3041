-- What whole bytes are worth.
use Rattle.std.proofs.Common.{◌≡◌, ℕ, Option, Some, None, List, [], ◌∷◌, ◌++◌, Result, Ok, Err, refl, sym, ap, subst, ◌∙◌, inl, inr}
use Rattle.std.proofs.lemmas.List.{append-nil, append_cancel_left}
use Rattle.std.specs.Prelude.{IsErrAnd, IfSome}
use Rattle.stateful_base.specs.declared.codec.CodecError.{CodecError}
use Rattle.stateful_base.specs.declared.codec.CodecError.TheVariants.{InvalidEnum, EndOfBuffer, OutOfMemory}
use Rattle.stateful_base.specs.Format.{Format, EndsInside, IsWrong, IsFormat, Reads, UnlessMemory, end_of}
use Rattle.stateful_base.specs.FormatLaws.{same_first}
use Rattle.stateful_base.proofs.Formats.{not_inside, not_wrong, inside_not_wrong, one_wrong}
use Rattle.stateful_sync_plan.specs.Worth.{IsLeftOver, IsWhole, IsWorth}

-- a value was read, and bytes were left over
pub left_over : {A : Type 0} (f : Format A) (x : A) (bytes after : List ℕ) (error : CodecError) (result : Result A CodecError) → Reads f (Ok x) bytes after → end_of after ≡ Err error → IsErrAnd result (λ e. e ≡ error)
    → UnlessMemory result (IsWhole f bytes result)
left_over f x bytes [] error result r e same = absurd cc
left_over f x bytes (b ∷ rest) error (Ok y) r e same = absurd same
left_over {A} f x bytes (b ∷ rest) error (Err given) r e same =
    let is : InvalidEnum b ≡ given = (let there : InvalidEnum b ≡ error = cc in cc) in
    subst (λ (d : CodecError). UnlessMemory {A = A} (Err d) (IsWhole f bytes (Err d))) is
    (inr (record { value = x; rest = rest; fits = r.first.0; place = r.first.1 }))

module _ {A : Type 0} (f : Format A) (law : IsFormat f) where
  spelled_whole : (x : A) (bytes : List ℕ) → bytes ≡ f.spelling x → bytes ≡ f.spelling x ++ []
  spelled_whole x bytes e = e ∙ sym (append-nil (f.spelling x))

  -- a whole value leaves nothing over
  no_left_over : (x : A) (bytes : List ℕ) (byte : ℕ) → f.fits x → bytes ≡ f.spelling x → IsLeftOver f bytes byte → ⊥
  no_left_over x bytes byte fits e l =
      let same : x ≡ l.value = same_first f law x l.value [] (byte ∷ l.rest) fits l.fits (sym (spelled_whole x bytes e) ∙ l.place) in
      let nothing : [] ≡ byte ∷ l.rest = append_cancel_left (f.spelling x) [] (byte ∷ l.rest) (sym (spelled_whole x bytes e) ∙ l.place ∙ ap (λ (y : A). f.spelling y ++ byte ∷ l.rest) (sym same)) in
      absurd cc

  one_left_over : (bytes : List ℕ) (b c : ℕ) → IsLeftOver f bytes b → IsLeftOver f bytes c → b ≡ c
  one_left_over bytes b c one other =
      let same : one.value ≡ other.value = same_first f law one.value other.value (b ∷ one.rest) (c ∷ other.rest) one.fits other.fits (sym one.place ∙ other.place) in
      let rests : b ∷ one.rest ≡ c ∷ other.rest = append_cancel_left (f.spelling one.value) (b ∷ one.rest) (c ∷ other.rest) (sym one.place ∙ other.place ∙ ap (λ (y : A). f.spelling y ++ c ∷ other.rest) (sym same)) in
      cc

  left_not_wrong : (bytes : List ℕ) (b c : ℕ) → IsLeftOver f bytes b → IsWrong f bytes c → ⊥
  left_not_wrong bytes b c l w = not_wrong f law l.value l.fits (b ∷ l.rest) c (subst (λ (z : List ℕ). IsWrong f z c) l.place w)

  inside_not_left : (bytes : List ℕ) (b : ℕ) → EndsInside f bytes → IsLeftOver f bytes b → ⊥
  inside_not_left bytes b inside l = not_inside f law l.value (b ∷ l.rest) l.fits (subst (EndsInside f) l.place inside)

  one_fault : (bytes : List ℕ) (b c : ℕ) → IsWhole f bytes (Err (InvalidEnum b)) → IsWhole f bytes (Err (InvalidEnum c)) → b ≡ c
  one_fault bytes b c (inl w) (inl w') = one_wrong f bytes b c w w'
  one_fault bytes b c (inl w) (inr l) = absurd (left_not_wrong bytes c b l w)
  one_fault bytes b c (inr l) (inl w) = absurd (left_not_wrong bytes b c l w)
  one_fault bytes b c (inr l) (inr l') = one_left_over bytes b c l l'

  not_faulty : (x : A) (bytes : List ℕ) (b : ℕ) → f.fits x → bytes ≡ f.spelling x → IsWhole f bytes (Err (InvalidEnum b)) → ⊥
  not_faulty x bytes b fits e (inl w) = not_wrong f law x fits [] b (subst (λ (z : List ℕ). IsWrong f z b) (spelled_whole x bytes e) w)
  not_faulty x bytes b fits e (inr l) = no_left_over x bytes b fits e l

  not_short : (x : A) (bytes : List ℕ) → f.fits x → bytes ≡ f.spelling x → EndsInside f bytes → ⊥
  not_short x bytes fits e inside = not_inside f law x [] fits (subst (EndsInside f) (spelled_whole x bytes e) inside)

  inside_not_faulty : (bytes : List ℕ) (b : ℕ) → EndsInside f bytes → IsWhole f bytes (Err (InvalidEnum b)) → ⊥
  inside_not_faulty bytes b inside (inl w) = inside_not_wrong f bytes b inside w
  inside_not_faulty bytes b inside (inr l) = inside_not_left bytes b inside l

  -- bytes are one thing at most
  one_whole : (bytes : List ℕ) (one other : Result A CodecError) → IsWhole f bytes one → IsWhole f bytes other → one ≡ other
  one_whole bytes (Ok x) (Ok y) one other = ap (λ (z : A). Ok z) (law.alone x y [] one.0 other.0 (append-nil (f.spelling x) ∙ sym one.1 ∙ other.1))
  one_whole bytes (Ok x) (Err EndOfBuffer) one other = absurd (not_short x bytes one.0 one.1 other)
  one_whole bytes (Ok x) (Err (InvalidEnum b)) one other = absurd (not_faulty x bytes b one.0 one.1 other)
  one_whole bytes (Ok x) (Err OutOfMemory) one other = absurd other
  one_whole bytes (Err EndOfBuffer) (Ok y) one other = absurd (not_short y bytes other.0 other.1 one)
  one_whole bytes (Err EndOfBuffer) (Err EndOfBuffer) one other = refl
  one_whole bytes (Err EndOfBuffer) (Err (InvalidEnum b)) one other = absurd (inside_not_faulty bytes b one other)
  one_whole bytes (Err EndOfBuffer) (Err OutOfMemory) one other = absurd other
  one_whole bytes (Err (InvalidEnum b)) (Ok y) one other = absurd (not_faulty y bytes b other.0 other.1 one)
  one_whole bytes (Err (InvalidEnum b)) (Err EndOfBuffer) one other = absurd (inside_not_faulty bytes b other one)
  one_whole bytes (Err (InvalidEnum b)) (Err (InvalidEnum c)) one other = ap (λ (n : ℕ). Err (InvalidEnum n)) (one_fault bytes b c one other)
  one_whole bytes (Err (InvalidEnum b)) (Err OutOfMemory) one other = absurd other
  one_whole bytes (Err OutOfMemory) other one _ = absurd one

  -- and so is what stands for a value or for none
  pub one_worth : (value : Option (List ℕ)) (one other : Result (Option A) CodecError) → IsWorth f value one → IsWorth f value other → one ≡ other
  one_worth None (Ok None) (Ok None) one other = refl
  one_worth None (Ok None) (Ok (Some y)) one other = absurd other
  one_worth None (Ok None) (Err e) one other = absurd other
  one_worth None (Ok (Some x)) other one _ = absurd one
  one_worth None (Err e) other one _ = absurd one
  one_worth (Some bytes) (Ok None) other one _ = absurd one
  one_worth (Some bytes) (Ok (Some x)) (Ok None) one other = absurd other
  one_worth (Some bytes) (Ok (Some x)) (Ok (Some y)) one other = under (one_whole bytes (Ok x) (Ok y) one other)
    where
      under : ◌≡◌ {A = Result A CodecError} (Ok x) (Ok y) → ◌≡◌ {A = Result (Option A) CodecError} (Ok (Some x)) (Ok (Some y))
      under e = cc
  one_worth (Some bytes) (Ok (Some x)) (Err e) one other = let never = one_whole bytes (Ok x) (Err e) one other in absurd cc
  one_worth (Some bytes) (Err e) (Ok None) one other = absurd other
  one_worth (Some bytes) (Err e) (Ok (Some y)) one other = let never = one_whole bytes (Err e) (Ok y) one other in absurd cc
  one_worth (Some bytes) (Err e) (Err d) one other = under (one_whole bytes (Err e) (Err d) one other)
    where
      under : ◌≡◌ {A = Result A CodecError} (Err e) (Err d) → ◌≡◌ {A = Result (Option A) CodecError} (Err e) (Err d)
      under same = cc

-- where what is held is worth this, whatever else it is worth is the same
pub one_kept : {A : Type 0} (f : Format A) → IsFormat f → (held : Option (Option (List ℕ))) (state : Option A) → IfSome held (λ value. IsWorth f value (Ok state))
    → IfSome held (λ _. (earlier : Option A) → IfSome held (λ value. IsWorth f value (Ok earlier)) → state ≡ earlier)
one_kept f law None state worth = tt
one_kept {A} f law (Some value) state worth = λ earlier other. under earlier (one_worth f law value (Ok state) (Ok earlier) worth other)
  where
    under : (earlier : Option A) → ◌≡◌ {A = Result (Option A) CodecError} (Ok state) (Ok earlier) → state ≡ earlier
    under earlier e = cc
