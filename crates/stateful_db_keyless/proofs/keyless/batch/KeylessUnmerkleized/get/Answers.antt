use Rattle.std.proofs.Common.{◌∷◌, [], refl}
use Rattle.stateful_db_keyless.specs.Reads.{log_over}
use Rattle.stateful_db_keyless.proofs.Locations.{each_low}
use Rattle.stateful_db_keyless.proofs.keyless.batch.KeylessUnmerkleized.get.Goals as goal

pub returns-clause-value : goal.returns-clause-value
returns-clause-value g c = λ p q chain ch shown holds point.
    let log = log_over ch q.1 in
    let readable = c.in_ok-check.ensures.ok p q chain ch shown holds in
    c.in_ok-value.ensures p q chain ch shown holds point (each_low log.floor log.end (c.args.location ∷ []) 0 c.args.location readable refl)
