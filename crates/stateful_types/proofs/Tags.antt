-- Readers of formats whose first byte says which case it is.
use Rattle.std.proofs.Common.{◌≡◌, ℕ, List, [], ◌∷◌, ◌++◌, length, Result, Ok, Err, refl, sym, ap, subst, ◌∙◌, arith, length-append}
use Rattle.std.specs.Prelude.{IsErrAnd}
use Rattle.stateful_base.specs.declared.codec.CodecError.{CodecError}
use Rattle.stateful_base.specs.declared.codec.CodecError.TheVariants.{InvalidEnum, EndOfBuffer, OutOfMemory}
use Rattle.stateful_base.specs.Format.{Format, Begins, EndsInside, Reads}
use Rattle.stateful_base.specs.FormatLaws.{Rest}
use Rattle.stateful_base.specs.Number.{u8_format}
use Rattle.stateful_types.specs.Cases.{nothing, IsTaggedBy}
use Rattle.stateful_base.proofs.Formats.{Met, met, reads, passed, rest_ok, rest_err}

-- the bytes behind a first byte that is known
pub tag_is : {byte tag : ℕ} {before after : List ℕ} → byte ≡ tag → Reads u8_format (Ok byte) before after → before ≡ (tag ∷ []) ++ after
tag_is {after = after} e r = r.first.1 ∙ ap (λ (b : ℕ). b ∷ after) e

-- a case with nothing behind its byte
pub nothing_met : {bytes : List ℕ} → Met nothing (Ok tt) bytes bytes
nothing_met = record { first = (tt, refl); taken = ([], refl) }

-- a format of one byte, which has each byte of a case
pub record IsHead {H : Type 0} (Tag : ℕ → Type 0) (head : Format H) : Type 0 where
  pub short : (bytes : List ℕ) → EndsInside head bytes → bytes ≡ []
  pub has : (byte : ℕ) → Tag byte → Begins head (byte ∷ [])

inside_byte : (bytes : List ℕ) → EndsInside u8_format bytes → bytes ≡ []
inside_byte [] inside = refl
inside_byte (b ∷ bytes) inside = absurd (omega (arith, simp length-append at (ap length inside.begins.whole)))

module _ {X : Type 0} {whole : Format X} {Tag : ℕ → Type 0} (tags : IsTaggedBy whole Tag) where
  -- nothing is the front of each value
  inside_nothing : EndsInside whole []
  inside_nothing =
      let begins = tags.begins tags.law.some.0 tags.law.some.1 in
      record { next = begins.0; begins = record { value = tags.law.some.0; rest = begins.1; fits = tags.law.some.1; whole = sym begins.3 } }

  begins_tag : (byte : ℕ) → Begins whole (byte ∷ []) → Tag byte
  begins_tag byte b =
      let begins = tags.begins b.value b.fits in
      let all : byte ∷ b.rest ≡ begins.0 ∷ begins.1 = b.whole ∙ begins.3 in
      let same : begins.0 ≡ byte = cc in
      subst Tag same begins.2

  refused : {H : Type 0} (head : Format H) → IsHead Tag head → (error : CodecError) (before after : List ℕ) → Met head (Err error) before after → Met whole (Err error) before after
  refused head is EndOfBuffer before after m = record { first = subst (EndsInside whole) (sym (is.short before m.first)) inside_nothing; taken = m.taken }
  refused head is (InvalidEnum byte) before after m =
      let front : m.first.front ≡ [] = is.short m.first.front m.first.inside in
      record {
        first = record {
          front = [];
          rest = m.first.rest;
          place = m.first.place ∙ ap (λ (w : List ℕ). w ++ byte ∷ m.first.rest) front;
          inside = inside_nothing;
          none = λ b. m.first.none (subst (λ (w : List ℕ). Begins head (w ++ byte ∷ [])) (sym front) (is.has byte (begins_tag byte b)));
        };
        taken = m.taken;
      }
  refused head is OutOfMemory before after m = record { first = tt; taken = m.taken }

  -- what should be the first byte is refused, and so is the whole
  pub head_err : {H : Type 0} {head : Format H} {result : Result X CodecError} {error : CodecError} {before after : List ℕ} → IsHead Tag head → IsErrAnd result (λ e. e ≡ error)
      → Reads head (Err error) before after → Reads whole result before after
  head_err {head = head} {result} {error} {before} {after} is same r = passed whole tags.law result error before after same (refused head is error before after (met r))

  -- the first byte isn't there
  pub tag_err : {result : Result X CodecError} {error : CodecError} {before after : List ℕ} → IsErrAnd result (λ e. e ≡ error) → Reads u8_format (Err error) before after → Reads whole result before after
  tag_err same r = head_err (record { short = inside_byte; has = λ byte is. record { value = byte; rest = []; fits = tags.bytes byte is; whole = refl } }) same r

  -- the first byte is that of no case
  pub tag_wrong : {byte : ℕ} {before after : List ℕ} → (Tag byte → ⊥) → Reads u8_format (Ok byte) before after → Reads whole (Err (InvalidEnum byte)) before after
  tag_wrong {byte} {before} {after} none r = reads whole tags.law (Err (InvalidEnum byte)) before after (record {
    first = record { front = []; rest = after; place = r.first.1; inside = inside_nothing; none = λ b. none (begins_tag byte b) };
    taken = r.taken;
  })

  -- what is behind the byte of a case is read, and so the whole
  pub case_ok : {A : Type 0} {f : Format A} {into : A → X} {tag : ℕ} {a : A} {before mid after : List ℕ} → Rest whole (tag ∷ []) f into → before ≡ (tag ∷ []) ++ mid
      → Met f (Ok a) mid after → Reads whole (Ok (into a)) before after
  case_ok {f = f} {into} {tag} {a} {before} {mid} {after} case place m = reads whole tags.law (Ok (into a)) before after (rest_ok whole (tag ∷ []) f into case a before mid after place m)

  -- it is refused, and so is the whole
  pub case_err : {A : Type 0} {f : Format A} {into : A → X} {tag : ℕ} {result : Result X CodecError} {error : CodecError} {before mid after : List ℕ} → Rest whole (tag ∷ []) f into → IsErrAnd result (λ e. e ≡ error)
      → before ≡ (tag ∷ []) ++ mid → Met f (Err error) mid after → Reads whole result before after
  case_err {f = f} {into} {tag} {result} {error} {before} {mid} {after} case same place m =
      passed whole tags.law result error before after same (rest_err whole (tag ∷ []) f into case error before mid after place m)
