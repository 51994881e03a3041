use Rattle.std.proofs.Common.{rules, refl}
use Rattle.stateful_loop_model.proofs.BarrierCalls.{Acknowledges-none, Acknowledges-more, Acknowledges-all}
use Rattle.stateful_loop_finals.proofs.barrier.release.Goals as goal

pub loop-ticket-init : goal.loop-ticket-init
loop-ticket-init g c = Acknowledges-none c.args.processing.now c.args.marks.now.items

pub loop-ticket-preserved : goal.loop-ticket-preserved
loop-ticket-preserved g c = Acknowledges-more _ c.loop-ticket.processing _ c.released.new.self _ c.loop-ticket.marks.items _ (c.in-Some.height.0, c.in-Some.ticket) (search rules) (search rules) refl (search rules) c.loop-ticket.invariant

pub returns-clause-ok : goal.returns-clause-ok
returns-clause-ok g c = Acknowledges-all c.args.processing.now (record c.loop-ticket.processing { durability = c.released.new.self }) c.args.marks.now.items c.loop-ticket.marks.items (search rules) (search rules) (search rules)
