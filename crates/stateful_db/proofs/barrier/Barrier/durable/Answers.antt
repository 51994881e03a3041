use Rattle.stateful_db.proofs.Handles.{set-answered}
use Rattle.stateful_db.proofs.barrier.Barrier.durable.Goals as goal

pub returns-clause-answered : goal.returns-clause-answered
returns-clause-answered c = rw (← c.self.view_is) (set-answered c.self.inside.handles.items c.args.index c.index_mut-handle.result.now c.args.answer c.index_mut-handle.ensures.value)
