use Rattle.stateful_exec_model.specs.Workings.{workings}
use Rattle.stateful_exec_model.proofs.Builds.{gives}
use Rattle.stateful_exec_builds.proofs.built.hand_over.Goals as goal

pub returns-clause-ok : goal.returns-clause-ok
returns-clause-ok g c =
    let w = workings g.A.Block.Block.header g.A.Block.Block.context_of g.A.Context.Rounded.round_of g.A.Application.works g.A.Databases.DatabaseSet.kind g.A.Databases.DatabaseSet.shows in
    gives w c.args.building.now c.args.tables.now c.take_built.new.tables c.args.proposed c.in_ok-block.block c.args.marks.now.items _ _ c.args.handed _ c.in_ok-share.field-0 c.in_ok-share.ensures
    c.in_ok-block.ensures.built c.in_ok-block.ensures.rest c.decide-decision.ensures c.in_ok-push.ensures.items c.in_ok-push-2.ensures.items
