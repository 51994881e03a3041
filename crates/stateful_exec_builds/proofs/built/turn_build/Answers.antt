use Rattle.stateful_exec_tables.specs.Errors.{error_of_app}
use Rattle.stateful_exec_model.specs.Workings.{workings}
use Rattle.stateful_exec_tables.proofs.Queues.{handed_on}
use Rattle.stateful_exec_model.proofs.Builds.{turned_on, turned_out, not_taken, not_turned}
use Rattle.stateful_exec_builds.proofs.built.turn_build.Goals as goal

pub returns-in_err-turn_build-clause-fault : goal.returns-in_err-turn_build-clause-fault
returns-in_err-turn_build-clause-fault g c =
    let w = workings g.A.Block.Block.header g.A.Block.Block.context_of g.A.Context.Rounded.round_of g.A.Application.works g.A.Databases.DatabaseSet.kind g.A.Databases.DatabaseSet.shows in
    handed_on _ c.from_residual.result (error_of_app c.in_err-turn_build.field-0.0) c.from_residual.ensures.1
    (not_turned w g.A.Build.Faulty.count (g.A.Databases.DatabaseSet.members c.args.databases.now) (g.A.Databases.DatabaseSet.next c.args.databases.now) c.args.tables.now c.args.marks.now.items c.args.build.now c.args.job c.in-Some.building c.turn_build.new.build c.in-Some.ensures.value c.if-building-job.false c.in_err-turn_build.field-0.0 c.in_err-turn_build.ensures.failed)

pub returns-in-Pending-clause-ok : goal.returns-in-Pending-clause-ok
returns-in-Pending-clause-ok g c =
    let w = workings g.A.Block.Block.header g.A.Block.Block.context_of g.A.Context.Rounded.round_of g.A.Application.works g.A.Databases.DatabaseSet.kind g.A.Databases.DatabaseSet.shows in
    turned_on w g.A.Build.Faulty.count (g.A.Databases.DatabaseSet.members c.args.databases.now) (g.A.Databases.DatabaseSet.next c.args.databases.now) c.args.tables.now c.args.marks.now.items c.args.build.now c.args.job c.in-Some.building c.turn_build.new.build c.in-Some.ensures.value c.if-building-job.false c.in_ok-turn_build.field-0 c.in-Pending.is c.in_ok-turn_build.ensures.ok c.in_ok-turn_build.ensures.cost

pub returns-in-Done-clause-ok : goal.returns-in-Done-clause-ok
returns-in-Done-clause-ok g c =
    let w = workings g.A.Block.Block.header g.A.Block.Block.context_of g.A.Context.Rounded.round_of g.A.Application.works g.A.Databases.DatabaseSet.kind g.A.Databases.DatabaseSet.shows in
    turned_out w g.A.Build.Faulty.count (g.A.Databases.DatabaseSet.members c.args.databases.now) (g.A.Databases.DatabaseSet.next c.args.databases.now) c.args.tables.now c.args.marks.now.items c.args.build.now c.args.job c.in-Some.building c.turn_build.new.build c.in-Some.ensures.value c.if-building-job.false c.in_ok-turn_build.field-0 c.in-Done.given c.in-Done.is c.in_ok-turn_build.ensures.ok c.in_ok-turn_build.ensures.cost c.end_build.new.tables _ c.end_build.result _ c.in-Some.ensures.after c.end_build.ensures.ok

pub returns-in-Done-clause-fault : goal.returns-in-Done-clause-fault
returns-in-Done-clause-fault g c =
    let w = workings g.A.Block.Block.header g.A.Block.Block.context_of g.A.Context.Rounded.round_of g.A.Application.works g.A.Databases.DatabaseSet.kind g.A.Databases.DatabaseSet.shows in
    not_taken w g.A.Build.Faulty.count (g.A.Databases.DatabaseSet.members c.args.databases.now) (g.A.Databases.DatabaseSet.next c.args.databases.now) c.args.tables.now c.args.marks.now.items c.args.build.now c.args.job c.in-Some.building c.turn_build.new.build c.in-Some.ensures.value c.if-building-job.false c.in_ok-turn_build.field-0 c.in-Done.given c.in-Done.is c.in_ok-turn_build.ensures.ok c.in_ok-turn_build.ensures.cost c.end_build.result c.end_build.ensures.fault
