use Rattle.std.proofs.Common.{◌≡◌, []}
use Rattle.stateful_db_bench.proofs.blocks.play.Given as goal

-- no token is out
abbrev pub invariant-loop-number : goal.invariant-loop-number
invariant-loop-number g l = g.S.DatabaseSet.kind.tokens (g.S.DatabaseSet.members l.set) 0 ≡ []
