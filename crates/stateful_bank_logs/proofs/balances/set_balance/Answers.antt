use Rattle.stateful_bank_logs.proofs.Balancing.{holds_more}
use Rattle.stateful_bank_logs.proofs.balances.set_balance.Goals as goal

pub returns : goal.returns
returns c = λ writes i p chain holds.
    rw (c.in_ok-write.ensures, ← c.from.ensures, ← c.entry_of-entry.ensures) (holds_more c.args.batch i p chain writes holds c.from.result c.entry_of-entry.result)
