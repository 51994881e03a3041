use Rattle.std.proofs.Common.{◌∙◌}
use Rattle.stateful_loop_model.proofs.Polling.{durable_polls}
use Rattle.stateful_loop_model.proofs.barriers.Active.is_flushed.Goals as goal

pub returns : goal.returns
returns c = c.eq.ensures ∙ durable_polls c.args.self.now.barrier c.poll.result c.poll.ensures
