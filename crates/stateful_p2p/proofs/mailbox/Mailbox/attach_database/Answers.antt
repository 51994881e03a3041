use Rattle.stateful_p2p.specs.declared.message.Message.TheVariants.{AttachDatabase}
use Rattle.stateful_p2p.specs.Messages.{kept}
use Rattle.stateful_p2p.proofs.Sending.{sends}
use Rattle.stateful_p2p.proofs.Boxing.{attaches}
use Rattle.stateful_p2p.proofs.mailbox.Mailbox.attach_database.Goals as goal

pub returns-clause-attaches : goal.returns-clause-attaches
returns-clause-attaches g c =
    let e = c.enqueue.ensures in
    rw (← c.self.view_is)
    (attaches _ c.args.db c.enqueue.new.self c.enqueue.result
    (sends kept c.self.inside.queue c.enqueue.new.self (AttachDatabase c.args.db) c.enqueue.result c.self.invariant.still_open e.closed e.room e.busy e.ready e.waits))
