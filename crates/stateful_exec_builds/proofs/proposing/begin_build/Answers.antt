use Rattle.stateful_exec_model.specs.Workings.{workings}
use Rattle.stateful_exec_model.proofs.Starting.{IsOver-weaker}
use Rattle.stateful_exec_builds.proofs.proposing.begin_build.Goals as goal

pub returns-clause-ok : goal.returns-clause-ok
returns-clause-ok g c =
    let w = workings g.A.Block.Block.header g.A.Block.Block.context_of g.A.Context.Rounded.round_of g.A.Application.works g.A.Databases.DatabaseSet.kind g.A.Databases.DatabaseSet.shows in
    IsOver-weaker w _ _ _ _ _ _ _ _ (λ q cs opened. c.in_ok-ask.ensures.ok _ q cs opened) c.in_ok-batches.ensures.ok
