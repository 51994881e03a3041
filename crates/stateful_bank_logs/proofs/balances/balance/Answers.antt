use Rattle.std.proofs.Common.{◌∷◌, refl}
use Rattle.stateful_bank_logs.proofs.Pairing.{among_here}
use Rattle.stateful_bank_logs.proofs.balances.balance.Goals as goal

pub returns-in_ok-balance_here-in-Here : goal.returns-in_ok-balance_here-in-Here
returns-in_ok-balance_here-in-Here c = λ writes i p chain holds at.
    c.in_ok-balance_here-in-Here.ensures writes i p chain holds (among_here _ _ (p ∷ chain) (rw c.in-Here.is refl) at)
