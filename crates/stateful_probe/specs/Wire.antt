-- What peers send each other, in bytes.
use Rattle.std.specs.Prelude.{ℕ, List, [], ◌∷◌, ◌++◌}
use Rattle.stateful_base.specs.Format.{Format}
use Rattle.stateful_base.specs.Finalization.{finalization_format}
use Rattle.stateful_probe.specs.declared.wire.Tag.{Tag}
use Rattle.stateful_probe.specs.declared.wire.Tag.TheVariants as tags
use Rattle.stateful_probe.specs.declared.wire.Message.{Message}
use Rattle.stateful_probe.specs.declared.wire.Message.TheVariants.{Request, Response}

abbrev pub tag_byte : Tag → List ℕ
tag_byte tags.Request = 0 ∷ []
tag_byte tags.Response = 1 ∷ []

-- byte 0 or byte 1
abbrev pub tag_format : Format Tag
tag_format = record { fits = λ tag. Unit {0}; spelling = tag_byte }

abbrev pub message_fits : {C : Type 0} → Format C → Message C → Type 0
message_fits certificate Request = Unit {0}
message_fits certificate (Response f) = (finalization_format certificate).fits f

abbrev pub message_bytes : {C : Type 0} → Format C → Message C → List ℕ
message_bytes certificate Request = 0 ∷ []
message_bytes certificate (Response f) = 1 ∷ [] ++ (finalization_format certificate).spelling f

-- byte 0, or byte 1 and a finalization
abbrev pub message_format : {C : Type 0} → Format C → Format (Message C)
message_format certificate = record {
  fits = message_fits certificate;
  spelling = message_bytes certificate;
}
