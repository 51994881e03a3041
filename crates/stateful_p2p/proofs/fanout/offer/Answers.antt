use Rattle.std.proofs.Common.{[], ◌∷◌, map, take, get_or, sym, append_assoc}
use Rattle.stateful_p2p_tables.specs.declared.out.ActorOut.TheVariants.{Candidate}
use Rattle.stateful_p2p.proofs.Offering.{offered_more, map_more}
use Rattle.stateful_p2p.proofs.fanout.offer.Goals as goal

pub loop-ticket-preserved : goal.loop-ticket-preserved
loop-ticket-preserved g c =
    let i = c.loop-ticket.ticket-index in (
      rw (c.in_ok-offer.ensures, c.in_ok-share.ensures, c.loop-ticket.invariant.0) (sym (offered_more c.args.mailbox.now c.args.takers.now i c.args.response.now c.loop-ticket-test.true)),
      rw (c.in_ok-push.ensures.items, c.loop-ticket.invariant.1, map_more (λ t. Candidate t) c.args.takers.now i c.loop-ticket-test.true) (append_assoc c.args.outs.now.items (map (λ t. Candidate t) (take i c.args.takers.now)) (Candidate (get_or c.args.takers.now i 0) ∷ [])),
    )
