use Rattle.std.proofs.Common.{refl}
use Rattle.stateful_exec_cache.proofs.Digests.{finds_more}
use Rattle.stateful_exec_pause.proofs.boundary.FinalizationBoundary.completed.Goals as goal

pub returns-clause-ok : goal.returns-clause-ok
returns-clause-ok c = rw (← c.self.view_is) (record { of = refl; round = refl; more = finds_more c.args.step.now.digest c.self.inside.compatible.keys c.insert.new.self.keys (λ d. c.in_ok-insert.ensures.updates.0 d) })
