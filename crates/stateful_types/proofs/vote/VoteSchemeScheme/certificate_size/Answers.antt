use Rattle.std.proofs.Common.{◌∙◌, ap, sym, ◌+◌, ◌*◌, length, List, ℕ}
use Rattle.stateful_types.specs.VoteLaws.{length-votes}
use Rattle.stateful_types.proofs.vote.VoteSchemeScheme.certificate_size.Goals as goal

pub returns-clause-size : goal.returns-clause-size
returns-clause-size c = ap (λ (xs : List ℕ). 4 + 4 * length xs) c.as_slice-signers.ensures ∙ sym (length-votes c.args.certificate.now)
