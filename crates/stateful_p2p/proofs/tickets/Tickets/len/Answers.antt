use Rattle.std.proofs.Common.{arith}
use Rattle.stateful_p2p.proofs.Standing.{live_few}
use Rattle.stateful_p2p.proofs.tickets.Tickets.len.Goals as goal

pub returns-clause-most : goal.returns-clause-most
returns-clause-most c = rw (← c.self.view_is) (omega (arith, live_few c.self.inside.standings))
