use Rattle.stateful_exec_model.specs.Workings.{workings}
use Rattle.stateful_exec_model.specs.Moments.{moment}
use Rattle.stateful_exec_model.specs.Rules.{runs}
use Rattle.stateful_exec_model.proofs.Acquiring.{asked, refused_ask, refused_run}
use Rattle.stateful_exec_runs.proofs.running.acquire.Goals as goal

pub returns-in_ok-ask-in-Ask-clause-ok : goal.returns-in_ok-ask-in-Ask-clause-ok
returns-in_ok-ask-in-Ask-clause-ok g c =
    let w = workings g.A.Block.Block.header g.A.Block.Block.context_of g.A.Context.Rounded.round_of g.A.Application.works g.A.Databases.DatabaseSet.kind g.A.Databases.DatabaseSet.shows in
    let needs = rw (c.in-Ask.is, c.as_slice-acquired.ensures) at c.in_ok-found.ensures in
    asked w (g.S.BlockStore.stored c.args.store.now) (g.A.Databases.DatabaseSet.members c.args.databases.now) (g.A.Databases.DatabaseSet.next c.args.databases.now) c.args.tables.now _ c.args.marks.now.items _ c.args.ticket c.args.requested c.in-Ask.digest
    needs c.in_ok-ask-in-Ask.ensures.left c.in_ok-ask-in-Ask.ensures.state c.in_ok-ask-in-Ask.ensures.marks

pub returns-in_ok-advance-in-Ready-clause-ok : goal.returns-in_ok-advance-in-Ready-clause-ok
returns-in_ok-advance-in-Ready-clause-ok g c =
    let needs = rw (c.in-Ready.is, c.as_slice-acquired.ensures) at c.in_ok-found.ensures in
    runs needs c.in_ok-advance-in-Ready.ensures.ok

pub returns-in_err-ask-in-Ask-clause-fault : goal.returns-in_err-ask-in-Ask-clause-fault
returns-in_err-ask-in-Ask-clause-fault g c =
    let w = workings g.A.Block.Block.header g.A.Block.Block.context_of g.A.Context.Rounded.round_of g.A.Application.works g.A.Databases.DatabaseSet.kind g.A.Databases.DatabaseSet.shows in
    let m = moment w c.args.tables.now (g.A.Databases.DatabaseSet.members c.args.databases.now) (g.A.Databases.DatabaseSet.next c.args.databases.now) c.args.marks.now.items in
    let needs = rw (c.in-Ask.is, c.as_slice-acquired.ensures) at c.in_ok-found.ensures in
    refused_ask w _ (g.S.BlockStore.stored c.args.store.now) m c.args.requested c.from_residual-in_err-ask-in-Ask.result c.in_err-ask-in-Ask.field-0.0 c.from_residual-in_err-ask-in-Ask.ensures.1 c.in-Ask.digest needs c.in_err-ask-in-Ask.ensures.err

pub returns-in_err-advance-in-Ready-clause-fault : goal.returns-in_err-advance-in-Ready-clause-fault
returns-in_err-advance-in-Ready-clause-fault g c =
    let w = workings g.A.Block.Block.header g.A.Block.Block.context_of g.A.Context.Rounded.round_of g.A.Application.works g.A.Databases.DatabaseSet.kind g.A.Databases.DatabaseSet.shows in
    let m = moment w c.args.tables.now (g.A.Databases.DatabaseSet.members c.args.databases.now) (g.A.Databases.DatabaseSet.next c.args.databases.now) c.args.marks.now.items in
    let needs = rw (c.in-Ready.is, c.as_slice-acquired.ensures) at c.in_ok-found.ensures in
    refused_run w _ (g.S.BlockStore.stored c.args.store.now) m c.args.requested c.from_residual-in_err-advance-in-Ready.result c.in_err-advance-in-Ready.field-0.0 c.from_residual-in_err-advance-in-Ready.ensures.1 c.in-Ready.path needs c.in_err-advance-in-Ready.ensures.fault
