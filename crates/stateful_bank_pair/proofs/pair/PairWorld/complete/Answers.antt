use Rattle.std.proofs.Common.{map, ◌∷◌}
use Rattle.stateful_db.specs.Pair.{left, right}
use Rattle.stateful_bank_logs.proofs.Pairing.{right_among}
use Rattle.stateful_bank_pair.proofs.pair.PairWorld.complete.Goals as goal

pub returns-in-Some : goal.returns-in-Some
returns-in-Some c = λ writes i p chain holds at.
    let shown = rw c.in-Some.is at (c.in_ok-amounts.ensures i.1 (right p) (map right chain) holds.1 (right_among _ _ (p ∷ chain) at)) in
    (c.complete_balances.ensures writes i.0 (left p) (map left chain) holds.0, shown.0)

-- a batch that stands on the databases isn't stale
pub returns-in-None : goal.returns-in-None
returns-in-None c = λ writes i p chain holds at.
    rw c.in-None.is at (c.in_ok-amounts.ensures i.1 (right p) (map right chain) holds.1 (right_among _ _ (p ∷ chain) at))
