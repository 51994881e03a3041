-- The formats of tags and of messages, by their two cases.
use Rattle.std.proofs.Common.{◌≡◌, ℕ, List, [], ◌∷◌, ◌++◌, length, Ok, refl, ap, ◌∙◌, inl, inr, lit<, arith, length-append}
use Rattle.std.specs.Prelude.{◌⊎◌}
use Rattle.stateful_base.specs.declared.finalization.Finalization.{Finalization}
use Rattle.stateful_base.specs.Format.{Format, Begins, EndsInside, IsFormat, Reads}
use Rattle.stateful_base.specs.FormatLaws.{Rest}
use Rattle.stateful_types.specs.Cases.{nothing, two_cases, IsTaggedBy}
use Rattle.stateful_types.specs.CasesLaws.{nothing_alone, HasTwoCases, two_tags, first_case, second_case}
use Rattle.stateful_base.specs.Finalization.{finalization_format}
use Rattle.stateful_types.proofs.Tags.{IsHead}
use Rattle.stateful_base.proofs.Values.{finalization_alone}
use Rattle.stateful_probe.specs.Wire.{tag_byte, tag_format, message_fits, message_format}
use Rattle.stateful_probe.specs.declared.wire.Tag.{Tag}
use Rattle.stateful_probe.specs.declared.wire.Tag.TheVariants as tags
use Rattle.stateful_probe.specs.declared.wire.Message.{Message}
use Rattle.stateful_probe.specs.declared.wire.Message.TheVariants.{Request, Response}

-- ---- tags

abbrev pub to_tag : Unit {0} ⊎ Unit {0} → Tag
to_tag (inl none) = tags.Request
to_tag (inr none) = tags.Response

pub tag_cases : HasTwoCases tag_format 0 nothing 1 nothing to_tag
tag_cases = record {
  names = record {
    fits = λ none fits. tt;
    spelled = elim [ inl none ↦ λ fits. refl | inr none ↦ λ fits. refl ];
    back = λ tag bytes fits e. back tag;
  };
  up = lit< tt;
  byte = lit< tt;
  first = nothing_alone;
  second = nothing_alone;
} where
  back : (tag : Tag) → (p : Unit {0} ⊎ Unit {0}) × (two_cases 0 nothing 1 nothing).fits p × (tag ≡ to_tag p)
  back tags.Request = (inl tt, tt, refl)
  back tags.Response = (inr tt, tt, refl)

pub tag_tags : IsTaggedBy tag_format (λ n. (n ≡ 0) ⊎ (n ≡ 1))
tag_tags = two_tags tag_cases

pub request_tag : Rest tag_format (0 ∷ []) nothing (λ none. tags.Request)
request_tag = first_case tag_cases

pub response_tag : Rest tag_format (1 ∷ []) nothing (λ none. tags.Response)
response_tag = second_case tag_cases

tag_long : (tag : Tag) → length (tag_byte tag) ≡ 1
tag_long tags.Request = refl
tag_long tags.Response = refl

-- a tag is a byte, and there is one for each case
pub tag_head : IsHead (λ n. (n ≡ 0) ⊎ (n ≡ 1)) tag_format
tag_head = record { short = short; has = has } where
  short : (bytes : List ℕ) → EndsInside tag_format bytes → bytes ≡ []
  short [] inside = refl
  short (b ∷ bytes) inside = absurd (omega (arith, simp length-append at (ap length inside.begins.whole), tag_long inside.begins.value))

  has : (byte : ℕ) → (byte ≡ 0) ⊎ (byte ≡ 1) → Begins tag_format (byte ∷ [])
  has byte (inl is) = record { value = tags.Request; rest = []; fits = tt; whole = ap (λ (n : ℕ). n ∷ []) is }
  has byte (inr is) = record { value = tags.Response; rest = []; fits = tt; whole = ap (λ (n : ℕ). n ∷ []) is }

-- the bytes from a tag on that is known
pub tagged : {tag known : Tag} {before after : List ℕ} → tag ≡ known → Reads tag_format (Ok tag) before after → before ≡ tag_byte known ++ after
tagged {after = after} is r = r.first.1 ∙ ap (λ (t : Tag). tag_byte t ++ after) is

-- ---- messages

module _ {C : Type 0} (certificate : Format C) where
  abbrev pub to_message : Unit {0} ⊎ Finalization C → Message C
  to_message (inl none) = Request
  to_message (inr f) = Response f

  module _ (law : IsFormat certificate) where
    pub message_cases : HasTwoCases (message_format certificate) 0 nothing 1 (finalization_format certificate) to_message
    message_cases = record {
      names = record {
        fits = elim [ inl none ↦ λ fits. tt | inr f ↦ λ fits. fits ];
        spelled = elim [ inl none ↦ λ fits. refl | inr f ↦ λ fits. refl ];
        back = λ x bytes fits e. back x fits;
      };
      up = lit< tt;
      byte = lit< tt;
      first = nothing_alone;
      second = finalization_alone certificate law;
    } where
      back : (x : Message C) → message_fits certificate x → (p : Unit {0} ⊎ Finalization C) × (two_cases 0 nothing 1 (finalization_format certificate)).fits p × (x ≡ to_message p)
      back Request fits = (inl tt, tt, refl)
      back (Response f) fits = (inr f, fits, refl)

    pub message_tags : IsTaggedBy (message_format certificate) (λ n. (n ≡ 0) ⊎ (n ≡ 1))
    message_tags = two_tags message_cases

    pub request_case : Rest (message_format certificate) (0 ∷ []) nothing (λ none. Request)
    request_case = first_case message_cases

    pub response_case : Rest (message_format certificate) (1 ∷ []) (finalization_format certificate) (λ f. Response f)
    response_case = second_case message_cases
