use Rattle.std.proofs.Common.{map, ◌∷◌}
use Rattle.stateful_db.specs.Pair.{left}
use Rattle.stateful_bank_logs.proofs.Pairing.{left_among}
use Rattle.stateful_bank_triple.proofs.triple.TripleWorld.balance.Goals as goal

pub returns : goal.returns
returns c = λ writes i p chain holds at.
    c.in_ok-balance.ensures writes i.0 (left p) (map left chain) holds.0 (left_among _ _ (p ∷ chain) at)
