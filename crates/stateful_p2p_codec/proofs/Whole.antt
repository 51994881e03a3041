-- Responses that were read whole.
use Rattle.std.proofs.Common.{rules, ◌≡◌, ℕ, ◌%◌, ◌^◌, Result, Ok, Err, List, [], ◌∷◌, ◌++◌, length, refl, sym, ap, subst, ◌∙◌, inl, inr, append-nil}
use Rattle.std.specs.List.{flat_map}
use Rattle.std.specs.Result.{IsErrOf}
use Rattle.stateful_base.specs.Format.{Format, Reads, end_of}
use Rattle.stateful_base.specs.FormatLaws.{same_first}
use Rattle.stateful_base.specs.FixedLaws.{u32_alone}
use Rattle.stateful_base.specs.Number.{u32_format}
use Rattle.stateful_types.specs.Response.{response_format, Allows, IsAllowed, HasTooMany}
use Rattle.stateful_base.specs.declared.codec.CodecError.{CodecError}
use Rattle.stateful_base.specs.declared.codec.CodecError.TheVariants.{InvalidEnum, EndOfBuffer, OutOfMemory}
use Rattle.stateful_types.specs.declared.request.Request.{Request}
use Rattle.stateful_types.specs.declared.response.Response.{Response}
use Rattle.stateful_types.specs.declared.response.Response.TheVariants.{Operations, Boundary}
use Rattle.stateful_p2p_codec.specs.Reading.{IsWhole, IsWholeAs}

tail_same : (x : ℕ) (xs ys : List ℕ) → ◌≡◌ {A = List ℕ} (x ∷ xs) (x ∷ ys) → xs ≡ ys
tail_same x xs ys e = cc

other_first : (xs ys : List ℕ) → ◌≡◌ {A = List ℕ} (1 ∷ xs) (0 ∷ ys) → ⊥
other_first xs ys e = cc

same_pair : {A B : Type 0} (x y : A × B) → ◌≡◌ {A = Result (A × B) CodecError} (Ok x) (Ok y) → x ≡ y
same_pair x y e = cc

module _ {Op : Type 0} (operations : Format Op) (key : Request) (bytes : List ℕ) where
  -- bytes that are a response to the key have no more operations than were asked for
  not_many : (response : Response Op) → IsWhole operations key bytes response → (count : ℕ) → HasTooMany key bytes count → ⊥
  not_many (Operations list) whole count many =
      let flat = flat_map operations.spelling list in
      let e : u32_format.spelling count ++ many.rest ≡ u32_format.spelling (length list) ++ flat =
      tail_same 0 (u32_format.spelling count ++ many.rest) (u32_format.spelling (length list) ++ flat) (sym many.place ∙ whole.whole) in
      let same : count ≡ length list = same_first u32_format u32_alone count (length list) many.rest flat many.fits whole.fits.0 e in
      many.many (subst (λ (n : ℕ). Allows key n) (sym same) whole.allowed)
  not_many (Boundary before op) whole count many = other_first _ _ (sym whole.whole ∙ many.place)

  -- an error tells that there is none
  pub whole_err : (error : CodecError) (after : List ℕ) → (((count : ℕ) → HasTooMany key bytes count → ⊥) → Reads (response_format operations) (Err error) bytes after) → IsWholeAs operations key bytes (Err error)
  whole_err OutOfMemory after reads = inl refl
  whole_err EndOfBuffer after reads =
      inr (λ response whole.
      let e = (reads (not_many response whole)).only (Ok (response, [])) (whole.fits, whole.whole ∙ sym (append-nil _)) in
      let no : ⊥ = cc in no)
  whole_err (InvalidEnum byte) after reads =
      inr (λ response whole.
      let e = (reads (not_many response whole)).only (Ok (response, [])) (whole.fits, whole.whole ∙ sym (append-nil _)) in
      let no : ⊥ = cc in no)

  module _ (response : Response Op) (after : List ℕ) (allowed : IsAllowed key response) (reads : Reads (response_format operations) (Ok response) bytes after) where
    only : (other : Response Op) → IsWhole operations key bytes other → (other ≡ response) × (after ≡ [])
    only other whole =
        let e = same_pair (response, after) (other, []) (reads.only (Ok (other, [])) (whole.fits, whole.whole ∙ sym (append-nil _))) in
        (sym (ap (λ p. p.0) e), ap (λ p. p.1) e)

    -- what was read to the end
    pub whole_ok : after ≡ [] → IsWholeAs operations key bytes (Ok response)
    whole_ok none =
        (record { fits = reads.first.0; whole = reads.first.1 ∙ rw none (append-nil _); allowed = allowed }, λ other whole. (only other whole).0)

    -- something is left
    pub whole_left : (error : CodecError) → end_of after ≡ Err error → IsWholeAs operations key bytes (Err error)
    whole_left error some = inr (λ other whole. left ((only other whole).1))
      where
        left : after ≡ [] → ⊥
        left none = let e = rw none at some in let no : ⊥ = cc in no

-- nothing is left where the end was found
pub at_end : (after : List ℕ) → end_of after ≡ Ok tt → after ≡ []
at_end [] e = refl
at_end (byte ∷ rest) e = let no : ⊥ = cc in absurd no

-- a response that was read had no more operations than were asked for
pub few : {Op : Type 0} (key : Request) (bytes : List ℕ) (response : Response Op)
    → ((count : ℕ) → HasTooMany key bytes count → IsErrOf {T = Response Op} {E = CodecError} (Ok response) (InvalidEnum (count % 2 ^ 8))) → (count : ℕ) → HasTooMany key bytes count → ⊥
few key bytes response many count has = let wrong = many count has in search rules
