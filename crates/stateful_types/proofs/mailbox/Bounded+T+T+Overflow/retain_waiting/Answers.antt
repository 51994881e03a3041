use Rattle.std.proofs.Common.{refl}
use Rattle.stateful_types.proofs.Orders.{filtered}
use Rattle.stateful_types.proofs.mailbox.Bounded+T+T+Overflow.retain_waiting.Goals as goal

pub returns-clause-dropped : goal.returns-clause-dropped
returns-clause-dropped g c = rw (← c.self.view_is) (record { parts = rw c.retain.ensures (filtered (g.P.Predicate.holds c.args.live.now) _); others = refl })
