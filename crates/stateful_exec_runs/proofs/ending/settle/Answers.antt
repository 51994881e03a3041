use Rattle.std.proofs.lemmas.Result.{on_ok_weaker, IfErr-weaker}
use Rattle.stateful_exec_model.specs.Workings.{workings}
use Rattle.stateful_exec_model.proofs.Settling.{settled, unserved}
use Rattle.stateful_exec_runs.proofs.ending.settle.Goals as goal

pub returns-clause-ok : goal.returns-clause-ok
returns-clause-ok g c =
    let w = workings g.A.Block.Block.header g.A.Block.Block.context_of g.A.Context.Rounded.round_of g.A.Application.works g.A.Databases.DatabaseSet.kind g.A.Databases.DatabaseSet.shows in
    on_ok_weaker c.follow_each.result
    (settled w (g.A.Databases.DatabaseSet.members c.args.databases.now) (g.A.Databases.DatabaseSet.next c.args.databases.now) c.args.tables.now c.end_run.new.tables c.release.new.self c.args.marks.now.items c.end_run.new.marks.items c.args.job c.args.answer c.in_ok-ended.field-0 c.in-Done.ended
    c.in_ok-block.block c.in_ok-block.how c.in_ok-released.released.items c.in_ok-ended.was c.in-Done.is (c.in_ok-block.ensures.ok _ _) c.in_ok-released.ensures.released c.in_ok-released.ensures.rest _)
    c.follow_each.ensures.ok

pub returns-clause-fault : goal.returns-clause-fault
returns-clause-fault g c =
    let w = workings g.A.Block.Block.header g.A.Block.Block.context_of g.A.Context.Rounded.round_of g.A.Application.works g.A.Databases.DatabaseSet.kind g.A.Databases.DatabaseSet.shows in
    IfErr-weaker c.follow_each.result _ _
    (unserved w (g.A.Databases.DatabaseSet.members c.args.databases.now) (g.A.Databases.DatabaseSet.next c.args.databases.now) c.args.tables.now c.end_run.new.tables c.release.new.self c.args.marks.now.items c.end_run.new.marks.items c.args.job c.args.answer c.in_ok-ended.field-0 c.in-Done.ended
    c.in_ok-block.block c.in_ok-block.how c.in_ok-released.released.items c.in_ok-ended.was c.in-Done.is (c.in_ok-block.ensures.ok _ _) c.in_ok-released.ensures.released c.in_ok-released.ensures.rest _)
    c.follow_each.ensures.fault
