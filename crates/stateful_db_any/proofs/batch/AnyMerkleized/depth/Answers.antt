use Rattle.std.proofs.Common.{length, arith, ap, sym}
use Rattle.stateful_db_any.specs.Shown.{Seal}
use Rattle.stateful_db_any.proofs.Sealing.{seal_length}
use Rattle.stateful_db_any.proofs.batch.AnyMerkleized.depth.Goals as goal

pub returns : goal.returns
returns g c = λ chain shown.
    let long = seal_length g.K.Ord.cmp g.K.Field.fields.spelling g.V.Field.fields.spelling c.args.self.now chain shown in
    let same = ap (λ (m : Seal g.row.K.Denot g.row.V.Denot). length m.below.layers) (sym c.self.view_is) in
    omega (arith, long, same, c.count.ensures.count)
