use Rattle.std.proofs.Common.{◌≡◌, [], take, length}
use Rattle.stateful_table.specs.Table.{put, put_each}
use Rattle.stateful_p2p_tables.proofs.state.State.await_verdicts.Given as goal

-- the tickets before this place are awaited
abbrev pub invariant-loop-ticket : goal.invariant-loop-ticket
invariant-loop-ticket g l =
    l.self ≡ record l.fn.self {
      unjudged = put_each l.fn.self.unjudged (take l.ticket-index l.takers) l.delivery;
      deliveries = put l.fn.self.deliveries l.delivery (record { awaited = length l.takers; given = [] });
    }
