use Rattle.stateful_base.specs.Number.{u64_format}
use Rattle.stateful_base.specs.Digest.{digest_format}
use Rattle.stateful_base.specs.Round.{round_format}
use Rattle.stateful_base.specs.Finalization.{finalization_format}
use Rattle.stateful_base.specs.FormatLaws.{both, IsFormat-both}
use Rattle.stateful_base.proofs.Formats.{met, renamed, renamed_err, both_ok, first_err, second_err}
use Rattle.stateful_base.specs.FixedLaws.{u64_alone}
use Rattle.stateful_base.proofs.Values.{round_alone, digest_alone, place_format, place_alone, proposal_format, proposal_alone, to_finalization, Rest-finalization}
use Rattle.stateful_base.proofs.finalization.Finalization.read.Goals as goal

pub returns-in_err-round : goal.returns-in_err-round
returns-in_err-round g c =
    let certificate = g.S.Scheme.certificates in
    let alone = g.met.S.Scheme.lawful in
    renamed_err (finalization_format certificate) (both proposal_format certificate) to_finalization (Rest-finalization certificate) (IsFormat-both proposal_format certificate proposal_alone alone) _ _ _ _ c.from_residual.ensures.1
    (first_err proposal_format certificate proposal_alone alone _ _ _
    (first_err place_format digest_format place_alone digest_alone _ _ _
    (first_err round_format u64_format round_alone u64_alone _ _ _ (met c.in_err-round.ensures.reads))))

pub returns-in_err-read_u64 : goal.returns-in_err-read_u64
returns-in_err-read_u64 g c =
    let certificate = g.S.Scheme.certificates in
    let alone = g.met.S.Scheme.lawful in
    renamed_err (finalization_format certificate) (both proposal_format certificate) to_finalization (Rest-finalization certificate) (IsFormat-both proposal_format certificate proposal_alone alone) _ _ _ _ c.from_residual-in_err-read_u64.ensures.1
    (first_err proposal_format certificate proposal_alone alone _ _ _
    (first_err place_format digest_format place_alone digest_alone _ _ _
    (second_err round_format u64_format round_alone _ _ _ _ _ (met c.in_ok-round.ensures.reads) (met c.in_err-read_u64.ensures.reads))))

pub returns-in_err-payload : goal.returns-in_err-payload
returns-in_err-payload g c =
    let certificate = g.S.Scheme.certificates in
    let alone = g.met.S.Scheme.lawful in
    renamed_err (finalization_format certificate) (both proposal_format certificate) to_finalization (Rest-finalization certificate) (IsFormat-both proposal_format certificate proposal_alone alone) _ _ _ _ c.from_residual-in_err-payload.ensures.1
    (first_err proposal_format certificate proposal_alone alone _ _ _
    (second_err place_format digest_format place_alone _ _ _ _ _
    (both_ok round_format u64_format round_alone _ _ _ _ _ (met c.in_ok-round.ensures.reads) (met c.in_ok-read_u64.ensures.reads))
    (met c.in_err-payload.ensures.reads)))

pub returns-in_err-certificate : goal.returns-in_err-certificate
returns-in_err-certificate g c =
    let certificate = g.S.Scheme.certificates in
    let alone = g.met.S.Scheme.lawful in
    renamed_err (finalization_format certificate) (both proposal_format certificate) to_finalization (Rest-finalization certificate) (IsFormat-both proposal_format certificate proposal_alone alone) _ _ _ _ c.from_residual-in_err-certificate.ensures.1
    (second_err proposal_format certificate proposal_alone _ _ _ _ _
    (both_ok place_format digest_format place_alone _ _ _ _ _
    (both_ok round_format u64_format round_alone _ _ _ _ _ (met c.in_ok-round.ensures.reads) (met c.in_ok-read_u64.ensures.reads))
    (met c.in_ok-payload.ensures.reads))
    (met c.in_err-certificate.ensures))

pub returns : goal.returns
returns g c =
    let certificate = g.S.Scheme.certificates in
    let alone = g.met.S.Scheme.lawful in
    renamed (finalization_format certificate) (both proposal_format certificate) to_finalization (Rest-finalization certificate) (IsFormat-both proposal_format certificate proposal_alone alone) _ _ _
    (both_ok proposal_format certificate proposal_alone _ _ _ _ _
    (both_ok place_format digest_format place_alone _ _ _ _ _
    (both_ok round_format u64_format round_alone _ _ _ _ _ (met c.in_ok-round.ensures.reads) (met c.in_ok-read_u64.ensures.reads))
    (met c.in_ok-payload.ensures.reads))
    (met c.in_ok-certificate.ensures))
