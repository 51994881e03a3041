use Rattle.stateful_exec.proofs.processor.Execution.cached.Goals as goal

pub returns : goal.returns
returns g c = rw (← c.self.view_is) c.has.ensures
