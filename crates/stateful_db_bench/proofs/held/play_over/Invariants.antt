use Rattle.std.proofs.Common.{◌≡◌, []}
use Rattle.stateful_db_bench.proofs.held.play_over.Given as goal

-- no token is out
abbrev pub invariant-loop-block : goal.invariant-loop-block
invariant-loop-block g l = g.S.DatabaseSet.kind.tokens (g.S.DatabaseSet.members l.set) 0 ≡ []
