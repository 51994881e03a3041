use Rattle.std.proofs.Common.{arith}
use Rattle.stateful_p2p.proofs.Standing.{answered_fresh}
use Rattle.stateful_p2p.proofs.mailbox.Mailbox.offer.Goals as goal

pub invariant_of-self-2 : goal.invariant_of-self-2
invariant_of-self-2 g c = record {
  still_open = c.self.invariant.still_open;
  filled = c.self.invariant.filled;
  fresh = rw c.answer.ensures.standings (answered_fresh _ _ c.args.ticket c.self.invariant.fresh);
  room = let count = c.answer.ensures.count in let room = c.self.invariant.room in omega arith;
}
