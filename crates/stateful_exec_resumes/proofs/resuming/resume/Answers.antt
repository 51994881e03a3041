use Rattle.std.proofs.lemmas.Result.{on_ok_weaker, IfErr-weaker}
use Rattle.stateful_base.specs.Causes.{Rose}
use Rattle.stateful_exec_model.specs.Workings.{workings}
use Rattle.stateful_exec_model.proofs.Following.{Rose-earlier}
use Rattle.stateful_exec_model.proofs.Resumed.{resumed, unresumed}
use Rattle.stateful_exec_resumes.proofs.resuming.resume.Goals as goal

pub returns-clause-ok : goal.returns-clause-ok
returns-clause-ok g c =
    let w = workings g.A.Block.Block.header g.A.Block.Block.context_of g.A.Context.Rounded.round_of g.A.Application.works g.A.Databases.DatabaseSet.kind g.A.Databases.DatabaseSet.shows in
    on_ok_weaker c.acquire_each.result
    (resumed w (g.S.BlockStore.stored c.args.store.now) (g.A.Databases.DatabaseSet.members c.args.databases.now) (g.A.Databases.DatabaseSet.next c.args.databases.now) c.args.marks.now.items
    c.args.tables.now c.take_parked.new.self c.end_pause.new.self c.in_ok-parked.parked.items c.in_ok-parked.ensures.out c.in_ok-parked.ensures.rest c.end_pause.ensures
    (g.A.Databases.DatabaseSet.members c.advance_each.new.databases) (g.A.Databases.DatabaseSet.next c.advance_each.new.databases) c.advance_each.new.marks.items
    c.advance_each.new.tables c.take_unacquired.new.self c.in_ok-unacquired.unacquired.items c.in_ok-advance_each.ensures.ok c.in_ok-unacquired.ensures.out c.in_ok-unacquired.ensures.rest _)
    c.acquire_each.ensures.ok

pub returns-clause-fault : goal.returns-clause-fault
returns-clause-fault g c =
    let w = workings g.A.Block.Block.header g.A.Block.Block.context_of g.A.Context.Rounded.round_of g.A.Application.works g.A.Databases.DatabaseSet.kind g.A.Databases.DatabaseSet.shows in
    IfErr-weaker c.acquire_each.result _ _
    (unresumed w (g.S.BlockStore.stored c.args.store.now) (g.A.Databases.DatabaseSet.members c.args.databases.now) (g.A.Databases.DatabaseSet.next c.args.databases.now) c.args.marks.now.items
    c.args.tables.now c.take_parked.new.self c.end_pause.new.self c.in_ok-parked.parked.items c.in_ok-parked.ensures.out c.in_ok-parked.ensures.rest c.end_pause.ensures
    (g.A.Databases.DatabaseSet.members c.advance_each.new.databases) (g.A.Databases.DatabaseSet.next c.advance_each.new.databases) c.advance_each.new.marks.items
    c.advance_each.new.tables c.take_unacquired.new.self c.in_ok-unacquired.unacquired.items c.in_ok-advance_each.ensures.ok c.in_ok-unacquired.ensures.out c.in_ok-unacquired.ensures.rest
    _ (Rose (g.A.Faulty.count c.args.application.now) (g.A.Faulty.count c.acquire_each.new.application)) (Rose-earlier _ _ _ c.in_ok-advance_each.ensures.later))
    c.acquire_each.ensures.fault
