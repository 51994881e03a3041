use Rattle.std.proofs.Common.{All, ◌<◌, ◌^◌, length}
use Rattle.stateful_peer_shell.proofs.probe.new.Given as goal

abbrev pub invariant-loop-epoch : goal.invariant-loop-epoch
invariant-loop-epoch l = All (λ known. length known.1.participants < 2 ^ 32) l.schemes
