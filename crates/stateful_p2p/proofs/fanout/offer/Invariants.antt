use Rattle.std.proofs.Common.{◌≡◌, ◌++◌, map, take}
use Rattle.stateful_p2p.specs.Inbox.{offered_each}
use Rattle.stateful_p2p_tables.specs.declared.out.ActorOut.TheVariants.{Candidate}
use Rattle.stateful_p2p.proofs.fanout.offer.Given as goal

-- the candidate waits for the tickets before this place
abbrev pub invariant-loop-ticket : goal.invariant-loop-ticket
invariant-loop-ticket g l =
    (l.mailbox ≡ offered_each l.fn.mailbox (take l.ticket-index l.takers) l.response) × (l.outs.items ≡ l.fn.outs.items ++ map (λ t. Candidate t) (take l.ticket-index l.takers))
