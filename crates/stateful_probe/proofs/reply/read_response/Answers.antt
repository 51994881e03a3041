use Rattle.std.proofs.Common.{inr, refl, le_refl}
use Rattle.stateful_probe.proofs.Reading.{passed_on, unopened, foreign, uncertain, followed, hopeless, hopeful, heard, whole, one_header}
use Rattle.stateful_probe.proofs.reply.read_response.Goals as goal

-- no header stands there
pub returns-in_err-round-clause-read : goal.returns-in_err-round-clause-read
returns-in_err-round-clause-read g c = passed_on _ _ _ _ _ c.from_residual.ensures.1 (unopened _ _ _ c.in_err-round.ensures.none)

pub returns-in_err-round-clause-unread : goal.returns-in_err-round-clause-unread
returns-in_err-round-clause-unread g c = λ round header hopeless. absurd (c.in_err-round.ensures.none round header)

-- its epoch doesn't count
pub returns-in_default-clause-read : goal.returns-in_default-clause-read
returns-in_default-clause-read g c = inr (foreign _ _ _ _ _ _ c.in_ok-round.ensures.found c.in_default.ensures.counts)

pub returns-in_default-clause-unread : goal.returns-in_default-clause-unread
returns-in_default-clause-unread g c = λ round header hopeless. (one_header _ _ _ _ _ c.in_ok-round.ensures.found round header).1

-- no certificate could make it a good reply
pub returns-then-is_hopeless-clause-read : goal.returns-then-is_hopeless-clause-read
returns-then-is_hopeless-clause-read g c =
    let known = (c.if-is_hopeless.ensures c.in_ok-round.round.epoch c.in-Some.ensures.counts).0 refl in
    hopeless _ _ _ _ _ _ c.in_ok-round.ensures.found _ c.in-Some.ensures.counts g.S.Scheme.max_size c.args.peer.now
    (λ f certified. g.met.S.Scheme.bounded _ f _ certified (le_refl _) c.in-Some.ensures.small)
    (rw c.len.ensures.value at known)

pub returns-then-is_hopeless-clause-unread : goal.returns-then-is_hopeless-clause-unread
returns-then-is_hopeless-clause-unread g c = λ round header hopeless. (one_header _ _ _ _ _ c.in_ok-round.ensures.found round header).1

-- the certificate was read
pub returns-in_err-certificate-clause-read : goal.returns-in_err-certificate-clause-read
returns-in_err-certificate-clause-read g c =
    passed_on _ _ _ _ _ c.from_residual-in_err-certificate.ensures.1
    (uncertain _ _ _ _ _ _ c.in_ok-round.ensures.found _ c.in-Some.ensures.counts _ _ c.in_err-certificate.ensures)

pub returns-in_err-certificate-clause-unread : goal.returns-in_err-certificate-clause-unread
returns-in_err-certificate-clause-unread g c = λ round header hopeless.
    absurd (hopeful _ _ _ _ _ _ c.in_ok-round.ensures.found _ c.in-Some.ensures.counts g.S.Scheme.max_size c.args.peer.now _ c.len.ensures.value (c.if-is_hopeless.ensures c.in_ok-round.round.epoch c.in-Some.ensures.counts).1 round header hopeless)

pub returns-in_err-end_of-clause-read : goal.returns-in_err-end_of-clause-read
returns-in_err-end_of-clause-read g c =
    passed_on _ _ _ _ _ c.from_residual-in_err-end_of.ensures.1
    (followed _ _ _ _ _ _ c.in_ok-round.ensures.found _ c.in-Some.ensures.counts _ _ _ c.in_ok-certificate.ensures c.in_err-end_of.ensures)

pub returns-in_err-end_of-clause-unread : goal.returns-in_err-end_of-clause-unread
returns-in_err-end_of-clause-unread g c = λ round header hopeless.
    absurd (hopeful _ _ _ _ _ _ c.in_ok-round.ensures.found _ c.in-Some.ensures.counts g.S.Scheme.max_size c.args.peer.now _ c.len.ensures.value (c.if-is_hopeless.ensures c.in_ok-round.round.epoch c.in-Some.ensures.counts).1 round header hopeless)

pub returns-clause-read : goal.returns-clause-read
returns-clause-read g c = record {
  whole = whole _ _ _ _ _ _ c.in_ok-round.ensures.found _ c.in-Some.ensures.counts _ _ c.in_ok-certificate.ensures c.in_ok-end_of.ensures;
  scheme = c.in-Some.scheme.now;
  counts = c.in-Some.ensures.counts;
  heard = heard _ _ _ _ _ _ c.in_ok-round.ensures.found _ c.in-Some.ensures.counts g.S.Scheme.max_size c.args.peer.now _ c.len.ensures.value (c.if-is_hopeless.ensures c.in_ok-round.round.epoch c.in-Some.ensures.counts).1;
}

pub returns-clause-unread : goal.returns-clause-unread
returns-clause-unread g c = λ round header hopeless.
    absurd (hopeful _ _ _ _ _ _ c.in_ok-round.ensures.found _ c.in-Some.ensures.counts g.S.Scheme.max_size c.args.peer.now _ c.len.ensures.value (c.if-is_hopeless.ensures c.in_ok-round.round.epoch c.in-Some.ensures.counts).1 round header hopeless)
