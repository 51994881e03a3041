-- The formats of heights, locations, digests, rounds and finalizations, by those of their parts.
use Rattle.std.proofs.Common.{ℕ, List, [], refl}
use Rattle.stateful_base.specs.declared.number.Height.{Height}
use Rattle.stateful_base.specs.declared.number.Location.{Location}
use Rattle.stateful_base.specs.declared.digest.Digest.{Digest}
use Rattle.stateful_base.specs.declared.round.Round.{Round}
use Rattle.stateful_base.specs.declared.finalization.Finalization.{Finalization}
use Rattle.stateful_base.specs.Format.{Format, IsFormat}
use Rattle.stateful_base.specs.Number.{bytes_format, u64_format, height_format, location_format}
use Rattle.stateful_base.specs.Digest.{digest_format}
use Rattle.stateful_base.specs.Round.{round_format}
use Rattle.stateful_base.specs.Finalization.{finalization_format}
use Rattle.stateful_base.specs.FormatLaws.{Rest, Rest-format, both, IsFormat-both}
use Rattle.stateful_base.specs.FixedLaws.{bytes_alone, u64_alone}

abbrev pub to_height : ℕ → Height
to_height n = record { 0 = n }

pub Rest-height : Rest height_format [] u64_format to_height
Rest-height = record { fits = λ n fits. fits; spelled = λ n fits. refl; back = λ h bytes fits e. (h.0, fits, refl) }

abbrev pub to_location : ℕ → Location
to_location n = record { 0 = n }

pub Rest-location : Rest location_format [] u64_format to_location
Rest-location = record { fits = λ n fits. fits; spelled = λ n fits. refl; back = λ l bytes fits e. (l.0, fits, refl) }

pub height_alone : IsFormat height_format
height_alone = Rest-format height_format u64_format to_height Rest-height u64_alone

pub location_alone : IsFormat location_format
location_alone = Rest-format location_format u64_format to_location Rest-location u64_alone

abbrev pub to_digest : List ℕ → Digest
to_digest bytes = record { 0 = bytes }

pub Rest-digest : Rest digest_format [] (bytes_format 32) to_digest
Rest-digest = record { fits = λ bytes fits. fits; spelled = λ bytes fits. refl; back = λ d bytes fits e. (d.0, fits, refl) }

pub digest_alone : IsFormat digest_format
digest_alone = Rest-format digest_format (bytes_format 32) to_digest Rest-digest (bytes_alone 32)

abbrev pub pair_format : Format (ℕ × ℕ)
pair_format = both u64_format u64_format

pub pair_alone : IsFormat pair_format
pair_alone = IsFormat-both u64_format u64_format u64_alone u64_alone

abbrev pub to_round : ℕ × ℕ → Round
to_round p = record { epoch = record { 0 = p.0 }; view = record { 0 = p.1 } }

pub Rest-round : Rest round_format [] pair_format to_round
Rest-round = record { fits = λ p fits. fits; spelled = λ p fits. refl; back = λ r bytes fits e. ((r.epoch.0, r.view.0), fits, refl) }

pub round_alone : IsFormat round_format
round_alone = Rest-format round_format pair_format to_round Rest-round pair_alone

-- the round and the parent's view; and the payload behind them; and the certificate
abbrev pub place_format : Format (Round × ℕ)
place_format = both round_format u64_format

pub place_alone : IsFormat place_format
place_alone = IsFormat-both round_format u64_format round_alone u64_alone

abbrev pub proposal_format : Format ((Round × ℕ) × Digest)
proposal_format = both place_format digest_format

pub proposal_alone : IsFormat proposal_format
proposal_alone = IsFormat-both place_format digest_format place_alone digest_alone

abbrev pub to_finalization : {C : Type 0} → ((Round × ℕ) × Digest) × C → Finalization C
to_finalization p = record { round = p.0.0.0; parent = record { 0 = p.0.0.1 }; payload = p.0.1; certificate = p.1 }

module _ {C : Type 0} (certificate : Format C) where
  pub Rest-finalization : Rest (finalization_format certificate) [] (both proposal_format certificate) to_finalization
  Rest-finalization = record {
    fits = λ p fits. (fits.0.0.0, fits.0.0.1, fits.0.1, fits.1);
    spelled = λ p fits. refl;
    back = λ f bytes fits e. ((((f.round, f.parent.0), f.payload), f.certificate), (((fits.0, fits.1), fits.2), fits.3), refl);
  }

  pub finalization_alone : IsFormat certificate → IsFormat (finalization_format certificate)
  finalization_alone law = Rest-format (finalization_format certificate) (both proposal_format certificate) to_finalization Rest-finalization (IsFormat-both proposal_format certificate proposal_alone law)
