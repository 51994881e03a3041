use Rattle.std.proofs.Common.{arith}
use Rattle.std.proofs.lemmas.Bool.{leb-true}
use Rattle.stateful_p2p.specs.Resolving.{setup}
use Rattle.stateful_p2p.proofs.Performing.{retired_number, admitted, did_hear, did_deliver, did_judge, did_leave, did_produce}
use Rattle.stateful_p2p.proofs.actor.perform.Goals as goal
use Rattle.stateful_p2p.proofs.actor.perform.Goals.{in-Hear+in_ok-hear-in-Hear, in-Deliver+in_ok-deliver-in-Deliver, in-Judge+in_ok-judge-in-Judge, in-Leave+in_ok-leave-in-Leave, in-Produce+in_ok-produce-in-Produce}

pub deliver-requires-clause-new : goal.deliver-requires-clause-new
deliver-requires-clause-new g c =
    let r = c.in_ok-retire.ensures.retires in
    let same = retired_number c.args.state.now _ _ _ c.retire.new.self r.2 in
    let new = leb-true c.args.state.now.next_delivery c.in-Deliver.delivery (rw c.in-Deliver.is at c.requires.fits).0 in
    omega (arith, same, new)

pub returns-clause-steps : goal.returns-clause-steps
returns-clause-steps g c =
    λ before event admits.
    let u = setup g.D.Op.Operation.operations g.D.SyncSource.serves c.args.max_serve_ops in
    let r = c.in_ok-retire.ensures.retires in
    let e = c.in_ok-gone.ensures in
    let taken = e.taken in
    admitted u c.args.state.now c.retire.new.self c.match-task-7.state before c.args.mailbox.now c.take_cancelled.new.self c.match-task-7.mailbox event c.args.task c.in_ok-gone.gone.items r.0 r.1 c.match-task-7.outs.items c.retire.new.outs.items
    admits e.ascending e.all (rw c.as_slice.ensures.value at r.2) taken (rw c.new-outs.ensures.items at r.3)
    (elim c.match-task-7.branch [
      | in-Hear+in_ok-hear-in-Hear w ↦ let h = w.in_ok-hear-in-Hear.ensures.hears in rw (w.in-Hear.is, w.state-is, w.mailbox-is, w.outs-is) (did_hear h.1 h.2)
      | in-Deliver+in_ok-deliver-in-Deliver w ↦ let h = w.in_ok-deliver-in-Deliver.ensures.delivers in rw (w.in-Deliver.is, w.state-is, w.mailbox-is, w.outs-is) (did_deliver h.1 h.2)
      | in-Judge+in_ok-judge-in-Judge w ↦ let h = w.in_ok-judge-in-Judge.ensures.judges in rw (w.in-Judge.is, w.state-is, w.mailbox-is, w.outs-is) (did_judge h.1 h.2)
      | in-Leave+in_ok-leave-in-Leave w ↦ let h = w.in_ok-leave-in-Leave.ensures.leaves in rw (w.in-Leave.is, w.state-is, w.mailbox-is, w.outs-is) (did_leave h.1 h.2)
      | in-Produce+in_ok-produce-in-Produce w ↦ let h = w.in_ok-produce-in-Produce.ensures in rw (w.in-Produce.is, w.state-is, w.mailbox-is, w.outs-is) (did_produce h.1 h.2)
    ])
