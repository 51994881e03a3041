use Rattle.stateful_p2p_tables.proofs.Awaiting.{awaited_more}
use Rattle.stateful_p2p_tables.proofs.state.State.await_verdicts.Goals as goal

pub loop-ticket-preserved : goal.loop-ticket-preserved
loop-ticket-preserved g c =
    awaited_more c.args.self.now c.loop-ticket.self _ c.args.takers.now c.loop-ticket.ticket-index c.args.delivery c.put-in-loop-ticket.new.self c.loop-ticket.invariant c.loop-ticket-test.true c.in_ok-put-2.ensures.ok
