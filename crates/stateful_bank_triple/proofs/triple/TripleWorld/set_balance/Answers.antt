use Rattle.std.proofs.Common.{map}
use Rattle.stateful_db.specs.Pair.{left}
use Rattle.stateful_bank_triple.proofs.triple.TripleWorld.set_balance.Goals as goal

pub returns : goal.returns
returns c = λ writes i p chain holds.
    (c.in_ok-balances.ensures writes i.0 (left p) (map left chain) holds.0, holds.1)
