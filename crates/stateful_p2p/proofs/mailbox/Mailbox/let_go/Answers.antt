use Rattle.std.proofs.Common.{ap, ◌∙◌, arith}
use Rattle.stateful_p2p.proofs.Standing.{ended_fresh}
use Rattle.stateful_p2p.proofs.mailbox.Mailbox.let_go.Goals as goal

pub invariant_of-self : goal.invariant_of-self
invariant_of-self g c = record {
  still_open = ap (λ q. q.closed) c.retain_waiting.ensures.dropped.others ∙ c.self.invariant.still_open;
  filled = c.retain_waiting.ensures.filled;
  fresh = rw c.end.ensures.standings (ended_fresh _ _ c.args.ticket c.self.invariant.fresh);
  room = let count = c.end.ensures.count in let room = c.self.invariant.room in omega arith;
}
