-- What a probe that serves answers.
use Rattle.std.specs.Prelude.{◌≡◌, ℕ, Option, Some, None, List}
use Rattle.stateful_base.specs.Format.{Format}
use Rattle.stateful_base.specs.declared.finalization.Finalization.{Finalization}
use Rattle.stateful_probe.specs.Wire.{message_format}
use Rattle.stateful_probe.specs.declared.wire.Message.TheVariants.{Response}

-- the bytes of a response with the latest finalization, where there is one
abbrev pub IsResponseOf : {C : Type 0}
    → Format C → Option (Finalization C) → Option (List ℕ) → Type 0
IsResponseOf certificates None found = found ≡ None
IsResponseOf certificates (Some f) found = (message_format certificates).fits (Response f)
    × (found ≡ Some ((message_format certificates).spelling (Response f)))
