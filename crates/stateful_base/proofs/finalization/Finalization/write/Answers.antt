use Rattle.std.proofs.Common.{[], sym}
use Rattle.std.proofs.lemmas.List.{append-nil}
use Rattle.stateful_base.specs.Number.{u64_format}
use Rattle.stateful_base.specs.Digest.{digest_format}
use Rattle.stateful_base.specs.Round.{round_format}
use Rattle.stateful_base.specs.Finalization.{finalization_format}
use Rattle.stateful_base.specs.FormatLaws.{both}
use Rattle.stateful_base.proofs.Formats.{write_both, write_rest}
use Rattle.stateful_base.proofs.Values.{place_format, proposal_format, to_finalization, Rest-finalization}
use Rattle.stateful_base.proofs.finalization.Finalization.write.Goals as goal

pub returns : goal.returns
returns g c =
    let certificate = g.S.Scheme.certificates in
    let f = c.args.self.now in
    let round = c.in_ok-write.ensures in
    let parent = c.in_ok-write_u64.ensures in
    let payload = c.in_ok-write-2.ensures in
    let place = write_both round_format u64_format f.round f.parent.0 _ _ _ _ round.fits round.appended parent in
    let proposal = write_both place_format digest_format (f.round, f.parent.0) f.payload _ _ _ _ place.fits place.appended payload in
    write_rest (finalization_format certificate) [] (both proposal_format certificate) to_finalization (Rest-finalization certificate) _ _ _ _ _ (sym (append-nil _))
    (write_both proposal_format certificate ((f.round, f.parent.0), f.payload) f.certificate _ _ _ _ proposal.fits proposal.appended c.write_certificate.ensures)
