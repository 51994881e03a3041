use Rattle.std.proofs.Common.{◌∙◌}
use Rattle.stateful_loop_model.proofs.Polling.{interrupted_polls}
use Rattle.stateful_loop_model.proofs.barriers.Active.is_broken.Goals as goal

pub returns : goal.returns
returns c = c.eq.ensures ∙ interrupted_polls c.args.self.now.barrier c.poll.result c.poll.ensures
