use Rattle.std.proofs.Common.{arith}
use Rattle.stateful_p2p.proofs.Standing.{ended_fresh}
use Rattle.stateful_p2p.proofs.mailbox.Mailbox.end.Goals as goal

pub invariant_of-self : goal.invariant_of-self
invariant_of-self g c = record {
  still_open = c.self.invariant.still_open;
  filled = c.self.invariant.filled;
  fresh = rw c.end.ensures.standings (ended_fresh _ _ c.args.ticket c.self.invariant.fresh);
  room = let count = c.end.ensures.count in let room = c.self.invariant.room in omega arith;
}
