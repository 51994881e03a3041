use Rattle.std.proofs.Common.{length}
use Rattle.stateful_actor_shell.proofs.durable.end.Given as goal

abbrev pub decreases-loop-ticket : goal.decreases-loop-ticket
decreases-loop-ticket l = length l.durability.held
