use Rattle.std.proofs.Common.{ap, sym, ◌∙◌, arith}
use Rattle.stateful_p2p.proofs.Standing.{ended_fresh}
use Rattle.stateful_p2p.proofs.Boxing.{live_some, noted}
use Rattle.stateful_p2p.proofs.mailbox.Mailbox.cancel.Goals as goal

pub push_reserved-requires : goal.push_reserved-requires
push_reserved-requires g c =
    let some = live_some c.self.inside.tickets c.args.ticket (sym c.is_live.ensures ∙ c.if-is_live.true) in
    let room = c.self.invariant.room in
    omega arith

pub invariant_of-self : goal.invariant_of-self
invariant_of-self g c = record {
  still_open = ap (λ q. q.closed) c.retain_waiting.ensures.dropped.others ∙ c.self.invariant.still_open;
  filled = c.retain_waiting.ensures.filled;
  fresh = rw c.end.ensures.standings (ended_fresh _ _ c.args.ticket c.self.invariant.fresh);
  room =
      rw (c.push_reserved.ensures.items, c.push_reserved.ensures.capacity)
      (noted _ _ _ _ _ _ c.self.invariant.room c.end.ensures.count (sym c.is_live.ensures ∙ c.if-is_live.true));
}
