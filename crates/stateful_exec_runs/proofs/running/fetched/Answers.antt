use Rattle.stateful_exec_model.specs.Workings.{workings}
use Rattle.stateful_exec_model.specs.Moments.{moment}
use Rattle.stateful_exec_model.proofs.Answering.{answered, refused, unanswered}
use Rattle.stateful_exec_runs.proofs.running.fetched.Goals as goal

pub returns-in_ok-requested-in-Some-answer-clause-ok : goal.returns-in_ok-requested-in-Some-answer-clause-ok
returns-in_ok-requested-in-Some-answer-clause-ok g c =
    let w = workings g.A.Block.Block.header g.A.Block.Block.context_of g.A.Context.Rounded.round_of g.A.Application.works g.A.Databases.DatabaseSet.kind g.A.Databases.DatabaseSet.shows in
    let acquires = rw (c.in-Some.ensures.rest, c.in_ok-requested-in-Some-answer.ensures) at c.acquire.ensures.ok in
    answered w (g.S.BlockStore.stored c.args.store.now) (moment w c.args.tables.now (g.A.Databases.DatabaseSet.members c.args.databases.now) (g.A.Databases.DatabaseSet.next c.args.databases.now) c.args.marks.now.items) _ c.args.fetch c.in-Some.ticket c.in-Some.requested c.args.answer c.in-Some-answer.block
    c.in-Some.ensures.fetches c.in-Some-answer.is c.acquire.result acquires

pub returns-in_ok-requested-in-Some-answer-clause-fault : goal.returns-in_ok-requested-in-Some-answer-clause-fault
returns-in_ok-requested-in-Some-answer-clause-fault g c =
    let w = workings g.A.Block.Block.header g.A.Block.Block.context_of g.A.Context.Rounded.round_of g.A.Application.works g.A.Databases.DatabaseSet.kind g.A.Databases.DatabaseSet.shows in
    let m = moment w c.args.tables.now (g.A.Databases.DatabaseSet.members c.args.databases.now) (g.A.Databases.DatabaseSet.next c.args.databases.now) c.args.marks.now.items in
    let faults = rw (c.in-Some.ensures.rest, c.in_ok-requested-in-Some-answer.ensures) at c.acquire.ensures.fault in
    refused w (g.S.BlockStore.stored c.args.store.now) m m c.args.fetch c.in-Some.ticket c.in-Some.requested c.args.answer c.in-Some-answer.block
    c.in-Some.ensures.fetches c.in-Some-answer.is _ c.acquire.result faults

pub returns-in_ok-abstain-in-None-clause-ok : goal.returns-in_ok-abstain-in-None-clause-ok
returns-in_ok-abstain-in-None-clause-ok g c =
    let w = workings g.A.Block.Block.header g.A.Block.Block.context_of g.A.Context.Rounded.round_of g.A.Application.works g.A.Databases.DatabaseSet.kind g.A.Databases.DatabaseSet.shows in
    let waits = rw c.in-Some.ensures.rest at c.in_ok-abstain-in-None.ensures.waits in
    let declines = rw c.in-Some.ensures.rest at c.in_ok-abstain-in-None.ensures.declines in
    unanswered w (g.S.BlockStore.stored c.args.store.now) _ _ c.args.tables.now _ c.args.marks.now.items _ c.args.fetch c.in-Some.ticket c.in-Some.requested c.args.answer c.in-Some.ensures.fetches c.in-None.is waits declines
