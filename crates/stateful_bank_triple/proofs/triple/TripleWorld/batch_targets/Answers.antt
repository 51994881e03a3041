use Rattle.std.proofs.Common.{map}
use Rattle.stateful_db.specs.Pair.{left, right}
use Rattle.stateful_bank_triple.proofs.triple.TripleWorld.batch_targets.Goals as goal

pub returns : goal.returns
returns c = λ p chain shown.
    let balances = c.batch_target-balances.ensures (left p) (map left chain) shown.0 in
    let amounts = c.batch_target-amounts.ensures (left (right p)) (map left (map right chain)) shown.1.0 in
    let compact = c.batch_target-compact.ensures (right (right p)) (map right (map right chain)) shown.1.1 in
    cc
