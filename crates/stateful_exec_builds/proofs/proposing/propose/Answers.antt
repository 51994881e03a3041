use Rattle.stateful_exec_model.specs.Workings.{workings}
use Rattle.stateful_exec_tables.proofs.Queues.{handed_on}
use Rattle.stateful_exec_model.proofs.Proposals.{not_started, started, not_begun, not_unqueued}
use Rattle.stateful_exec_builds.proofs.proposing.propose.Goals as goal

pub returns-in_err-queued-clause-fault : goal.returns-in_err-queued-clause-fault
returns-in_err-queued-clause-fault g c =
    let w = workings g.A.Block.Block.header g.A.Block.Block.context_of g.A.Context.Rounded.round_of g.A.Application.works g.A.Databases.DatabaseSet.kind g.A.Databases.DatabaseSet.shows in
    handed_on _ c.from_residual.result c.in_err-queued.field-0.0 c.from_residual.ensures.1
    (not_unqueued w c.args.ticket c.args.provider (g.A.Databases.DatabaseSet.members c.args.databases.now) (g.A.Databases.DatabaseSet.next c.args.databases.now) c.args.tables.now c.args.tables.now c.args.build.now _ c.in_err-queued.field-0.0 c.in_err-queued.ensures.fault)

pub returns-in_default-clause-ok : goal.returns-in_default-clause-ok
returns-in_default-clause-ok g c =
    let w = workings g.A.Block.Block.header g.A.Block.Block.context_of g.A.Context.Rounded.round_of g.A.Application.works g.A.Databases.DatabaseSet.kind g.A.Databases.DatabaseSet.shows in
    not_started w c.args.ticket c.args.provider (g.A.Databases.DatabaseSet.members c.args.databases.now) (g.A.Databases.DatabaseSet.next c.args.databases.now) c.args.tables.now c.unqueue.new.self c.args.build.now
    c.in_ok-queued.field-0 c.in_default.is c.in_ok-queued.ensures.ok

pub returns-in_err-live-clause-fault : goal.returns-in_err-live-clause-fault
returns-in_err-live-clause-fault g c =
    let w = workings g.A.Block.Block.header g.A.Block.Block.context_of g.A.Context.Rounded.round_of g.A.Application.works g.A.Databases.DatabaseSet.kind g.A.Databases.DatabaseSet.shows in
    handed_on _ c.from_residual-in_err-live.result c.in_err-live.field-0.0 c.from_residual-in_err-live.ensures.1
    (not_begun w c.args.ticket c.args.provider (g.A.Databases.DatabaseSet.members c.args.databases.now) (g.A.Databases.DatabaseSet.next c.args.databases.now) c.args.tables.now c.unqueue.new.self c.args.build.now c.in-Some.queued _ c.in_err-live.field-0.0
    c.in_ok-queued.field-0 c.in-Some.is c.in_ok-queued.ensures.ok c.in_err-live.ensures.fault)

pub returns-clause-ok : goal.returns-clause-ok
returns-clause-ok g c =
    let w = workings g.A.Block.Block.header g.A.Block.Block.context_of g.A.Context.Rounded.round_of g.A.Application.works g.A.Databases.DatabaseSet.kind g.A.Databases.DatabaseSet.shows in
    started w c.args.ticket c.args.provider (g.A.Databases.DatabaseSet.members c.args.databases.now) (g.A.Databases.DatabaseSet.next c.args.databases.now) c.args.tables.now c.unqueue.new.self c.args.build.now c.in-Some.queued _ c.in_ok-live.live
    c.in_ok-queued.field-0 c.in-Some.is c.in_ok-queued.ensures.ok
    c.in_ok-live.ensures.within c.in_ok-live.ensures.here c.in_ok-live.ensures.ok c.in_ok-live.ensures.keeps
