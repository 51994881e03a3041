use Rattle.std.proofs.Common.{ap, ◌∙◌, arith}
use Rattle.stateful_db_keyless.proofs.KeylessChains.{seals}
use Rattle.stateful_db_keyless.proofs.keyless.batch.KeylessUnmerkleized.seal.Goals as goal

pub returns-clause-ok : goal.returns-clause-ok
returns-clause-ok g c = λ chain shown.
    let layer = c.in_ok-layer.layer in
    let is = c.in_ok-layer.ensures in
    seals g.V.Field.fields.spelling c.args.self layer c.saturating_add-end.result c.max-floor.result c.link_commit-root.result chain
    (ap (λ l. l.0) is) (ap (λ l. l.1.from) is) (ap (λ l. l.1.ops.items) is ∙ c.in_ok-push.ensures.items) (ap (λ l. l.1.target) is) (omega (arith, c.saturating_add-end.ensures, c.len.ensures)) (omega arith) (omega (arith, c.max-floor.ensures, c.min.ensures)) c.link_commit-root.ensures shown
