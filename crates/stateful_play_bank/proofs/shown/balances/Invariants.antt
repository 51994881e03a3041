use Rattle.std.proofs.Common.{◌≡◌, map}
use Rattle.stateful_play_bank.proofs.shown.balances.Given as goal

abbrev pub invariant-loop-account : goal.invariant-loop-account
invariant-loop-account l = l.balances ≡ map (λ e. (e.0.now, e.1.now)) l.yielded
