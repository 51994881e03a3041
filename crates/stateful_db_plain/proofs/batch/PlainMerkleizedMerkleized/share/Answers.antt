use Rattle.stateful_db_plain.proofs.Showing.{roots_same}
use Rattle.stateful_db_plain.proofs.batch.PlainMerkleizedMerkleized.share.Goals as goal

pub invariant_of-result : goal.invariant_of-result
invariant_of-result c =
    let m = c.args.self.now in
    record { roots = roots_same m.layer _ m.below _ m.base _ c.in_ok-share.ensures c.in_ok-share-2.ensures c.in_ok-share-3.ensures m.roots }
