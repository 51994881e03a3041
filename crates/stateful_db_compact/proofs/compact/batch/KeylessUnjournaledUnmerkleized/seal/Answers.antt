use Rattle.std.proofs.Common.{refl, ap, arith}
use Rattle.stateful_db_compact.specs.declared.compact.batch.KeylessUnjournaledMerkleized.{KeylessUnjournaledMerkleized}
use Rattle.stateful_db_compact.proofs.CompactChains.{seals}
use Rattle.stateful_db_compact.proofs.compact.batch.KeylessUnjournaledUnmerkleized.seal.Goals as goal

pub returns-clause-ok : goal.returns-clause-ok
returns-clause-ok g c = λ chain shown.
    let spell = g.V.Field.fields.spelling in
    let sealed : KeylessUnjournaledMerkleized g.row.V.Denot = record { layer = c.in_ok-layer.layer; below = c.args.self.below; state = c.committed.result } in
    seals spell c.args.self sealed c.max-floor.result c.link_commit-root.result chain
    (ap (λ l. l.0) c.in_ok-layer.ensures) refl (omega arith) (omega (arith, c.max-floor.ensures, c.min.ensures)) c.link_commit-root.ensures c.committed.ensures shown
