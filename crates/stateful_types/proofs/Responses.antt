-- The format of responses, by its two cases, and what a request allows of them.
use Rattle.std.proofs.Common.{◌≡◌, ℕ, List, [], ◌∷◌, ◌++◌, Result, Ok, Err, refl, sym, ap, subst, ◌∙◌, inl, inr, lit<, arith}
use Rattle.std.specs.Prelude.{IsErrAnd, ◌⊎◌}
use Rattle.stateful_base.specs.declared.codec.CodecError.{CodecError}
use Rattle.stateful_base.specs.declared.codec.CodecError.TheVariants.{InvalidEnum, EndOfBuffer, OutOfMemory}
use Rattle.stateful_base.specs.declared.digest.Digest.{Digest}
use Rattle.stateful_types.specs.declared.request.Request.{Request}
use Rattle.stateful_types.specs.declared.response.Response.{Response}
use Rattle.stateful_types.specs.declared.response.Response.TheVariants.{Operations, Boundary}
use Rattle.stateful_base.specs.Format.{Format, IsFormat, Reads, UnlessMemory}
use Rattle.stateful_base.specs.FormatLaws.{Rest, both, IsFormat-both}
use Rattle.stateful_types.specs.Cases.{two_cases, IsTaggedBy}
use Rattle.stateful_types.specs.CasesLaws.{HasTwoCases, two_tags, first_case, second_case}
use Rattle.stateful_base.specs.Number.{u8_format, u32_format}
use Rattle.stateful_types.specs.Items.{items_format}
use Rattle.stateful_types.specs.ItemsLaws.{items_alone}
use Rattle.stateful_base.specs.Digest.{digest_format}
use Rattle.stateful_types.specs.Response.{response_fits, response_format, Allows, HasTooMany}
use Rattle.stateful_base.proofs.Formats.{Met}
use Rattle.stateful_base.proofs.Values.{digest_alone}

module _ {Op : Type 0} (op : Format Op) where
  abbrev pub boundary_format : Format (Digest × Op)
  boundary_format = both digest_format op

  abbrev pub to_response : List Op ⊎ (Digest × Op) → Response Op
  to_response (inl operations) = Operations operations
  to_response (inr p) = Boundary p.0 p.1

  module _ (law : IsFormat op) where
    pub response_cases : HasTwoCases (response_format op) 0 (items_format op) 1 boundary_format to_response
    response_cases = record {
      names = record {
        fits = elim [ inl p ↦ λ fits. fits | inr p ↦ λ fits. fits ];
        spelled = elim [ inl p ↦ λ fits. refl | inr p ↦ λ fits. refl ];
        back = λ x bytes fits e. back x fits;
      };
      up = lit< tt;
      byte = lit< tt;
      first = items_alone op law;
      second = IsFormat-both digest_format op digest_alone law;
    } where
      back : (x : Response Op) → response_fits op x → (p : List Op ⊎ (Digest × Op)) × (two_cases 0 (items_format op) 1 boundary_format).fits p × (x ≡ to_response p)
      back (Operations operations) fits = (inl operations, fits, refl)
      back (Boundary before operation) fits = (inr (before, operation), fits, refl)

    pub response_tags : IsTaggedBy (response_format op) (λ n. (n ≡ 0) ⊎ (n ≡ 1))
    response_tags = two_tags response_cases

    pub operations_case : Rest (response_format op) (0 ∷ []) (items_format op) (λ operations. Operations operations)
    operations_case = first_case response_cases

    pub boundary_case : Rest (response_format op) (1 ∷ []) boundary_format (λ p. Boundary p.0 p.1)
    boundary_case = second_case response_cases

-- what is refused doesn't stand first, unless memory ran out
refused_for_memory : {A : Type 0} (f : Format A) (error : CodecError) (before after : List ℕ) (x : A) (rest : List ℕ) → Reads f (Err error) before after → f.fits x → before ≡ f.spelling x ++ rest → error ≡ OutOfMemory
refused_for_memory f EndOfBuffer before after x rest r fits e = let never = r.only (Ok (x, rest)) (fits, e) in absurd cc
refused_for_memory f (InvalidEnum byte) before after x rest r fits e = let never = r.only (Ok (x, rest)) (fits, e) in absurd cc
refused_for_memory f OutOfMemory before after x rest r fits e = refl

excused : {A : Type 0} (result : Result A CodecError) (error : CodecError) (P : Type 0) → IsErrAnd result (λ e. e ≡ error) → error ≡ OutOfMemory → UnlessMemory result P
excused (Ok x) error P is memory = absurd is
excused {A} (Err e) error P is memory = subst (λ (d : CodecError). UnlessMemory {A = A} (Err d) P) (sym (is ∙ memory)) tt

-- where the first byte isn't there, neither is a number of operations that isn't allowed
pub untagged : {A : Type 0} (request : Request) (count : ℕ) (result : Result A CodecError) (error : CodecError) (P : Type 0) (before after : List ℕ) → HasTooMany request before count
    → IsErrAnd result (λ e. e ≡ error) → Reads u8_format (Err error) before after → UnlessMemory result P
untagged request count result error P before after many is r =
    excused result error P is (refused_for_memory u8_format error before after 0 (u32_format.spelling count ++ many.rest) r (omega arith) many.place)

-- nor where the number isn't there
pub uncounted : {A : Type 0} (request : Request) (count : ℕ) (result : Result A CodecError) (error : CodecError) (P : Type 0) (before mid after : List ℕ) → HasTooMany request before count
    → before ≡ (0 ∷ []) ++ mid → IsErrAnd result (λ e. e ≡ error) → Reads u32_format (Err error) mid after → UnlessMemory result P
uncounted request count result error P before mid after many tag is r =
    let place : mid ≡ u32_format.spelling count ++ many.rest = cc (tag, many.place) in
    excused result error P is (refused_for_memory u32_format error mid after count many.rest r many.fits place)

-- the number was read, and isn't allowed
pub beyond : (request : Request) (count : ℕ) (before mid after : List ℕ) → before ≡ (0 ∷ []) ++ mid → Met u32_format (Ok count) mid after → (Allows request count → ⊥) → HasTooMany request before count
beyond request count before mid after tag m many = record { rest = after; fits = m.first.0; place = tag ∙ ap (λ (w : List ℕ). (0 ∷ []) ++ w) m.first.1; many = many }
