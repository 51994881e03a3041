use Rattle.std.proofs.Common.{map}
use Rattle.stateful_db.specs.Pair.{left, right}
use Rattle.stateful_bank_pair.proofs.pair.PairWorld.batch_targets.Goals as goal

pub returns : goal.returns
returns c = λ p chain shown.
    let balances = c.batch_target-balances.ensures (left p) (map left chain) shown.0 in
    let amounts = c.batch_target-amounts.ensures (right p) (map right chain) shown.1 in
    cc
