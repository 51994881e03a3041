-- Finalizations in bytes.
use Rattle.std.specs.Prelude.{◌++◌}
use Rattle.stateful_base.specs.Format.{Format}
use Rattle.stateful_base.specs.Number.{view_format}
use Rattle.stateful_base.specs.Digest.{digest_format}
use Rattle.stateful_base.specs.Round.{round_format}
use Rattle.stateful_base.specs.declared.finalization.Finalization.{Finalization}

-- the round, the parent's view, the payload, and the certificate
abbrev pub finalization_format : {C : Type 0} → Format C → Format (Finalization C)
finalization_format certificate = record {
  fits =
      λ f. round_format.fits f.round
      × view_format.fits f.parent
      × digest_format.fits f.payload
      × certificate.fits f.certificate;
  spelling =
      λ f. round_format.spelling f.round ++ view_format.spelling f.parent
      ++ digest_format.spelling f.payload ++ certificate.spelling f.certificate;
}
