use Rattle.std.proofs.Common.{Some}
use Rattle.stateful_bank_logs.proofs.Balancing.{shows_after}
use Rattle.stateful_bank_logs.proofs.balances.complete_balances.Goals as goal

pub returns : goal.returns
returns c = λ writes i p chain holds.
    rw c.with_metadata.ensures (shows_after c.args.batch i p chain writes holds (Some c.args.height.0))
