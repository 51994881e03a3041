use Rattle.std.proofs.Common.{sym, ◌∙◌}
use Rattle.stateful_exec_model.specs.Workings.{workings}
use Rattle.stateful_loop_model.proofs.Handing.{converted}
use Rattle.stateful_loop_model.proofs.Firsts.{drained, not_drained, put_off}
use Rattle.stateful_loop_model.specs.Moments.{executing, moment}
use Rattle.stateful_loop_model.proofs.NotesFollowing.{not_again}
use Rattle.stateful_loop_taking.proofs.taking.drain_first.Goals as goal

pub returns-in_err-schedule-in-Request-clause-fault : goal.returns-in_err-schedule-in-Request-clause-fault
returns-in_err-schedule-in-Request-clause-fault g c =
    let w = workings g.A.Block.Block.header g.A.Block.Block.context_of g.A.Context.Rounded.round_of g.A.Application.works g.A.Databases.DatabaseSet.kind g.A.Databases.DatabaseSet.shows in
    let m = moment w (executing c.args.handler.now) c.args.processing.now (g.A.Databases.DatabaseSet.members c.args.databases.now) (g.A.Databases.DatabaseSet.next c.args.databases.now) c.args.marks.now.items in
    converted _ c.from_residual.result c.in_err-schedule-in-Request.field-0.0 c.from_residual.ensures.1
    (not_drained w (g.S.BlockStore.stored c.args.store.now) m c.pop.new.self c.requires.collected c.requires.building c.in-Some.message c.in-Some.ensures.some
    c.in-Request.request c.in-Request.is (sym c.is_verification.ensures ∙ c.if-is_verification.true) _ _ _ _ _ c.in_err-schedule-in-Request.ensures.fault)

pub returns-in_ok-schedule-in-Request-clause-ok : goal.returns-in_ok-schedule-in-Request-clause-ok
returns-in_ok-schedule-in-Request-clause-ok g c = λ provider.
    let w = workings g.A.Block.Block.header g.A.Block.Block.context_of g.A.Context.Rounded.round_of g.A.Application.works g.A.Databases.DatabaseSet.kind g.A.Databases.DatabaseSet.shows in
    let m = moment w (executing c.args.handler.now) c.args.processing.now (g.A.Databases.DatabaseSet.members c.args.databases.now) (g.A.Databases.DatabaseSet.next c.args.databases.now) c.args.marks.now.items in
    drained w (g.S.BlockStore.stored c.args.store.now) m c.pop.new.self c.requires.collected c.requires.building c.in-Some.message c.in-Some.ensures.some
    c.in-Request.request c.in-Request.is (sym c.is_verification.ensures ∙ c.if-is_verification.true) provider _
    (c.in_ok-schedule-in-Request.ensures.ok (record c.args.processing.now { queue = c.pop.new.self }))

pub returns-in_ok-push-clause-ok : goal.returns-in_ok-push-clause-ok
returns-in_ok-push-clause-ok g c = λ provider.
    let w = workings g.A.Block.Block.header g.A.Block.Block.context_of g.A.Context.Rounded.round_of g.A.Application.works g.A.Databases.DatabaseSet.kind g.A.Databases.DatabaseSet.shows in
    let m = moment w (executing c.args.handler.now) c.args.processing.now (g.A.Databases.DatabaseSet.members c.args.databases.now) (g.A.Databases.DatabaseSet.next c.args.databases.now) c.args.marks.now.items in
    put_off w (g.S.BlockStore.stored c.args.store.now) m c.pop.new.self c.requires.collected c.requires.building c.in-Some.message c.in-Some.ensures.some
    provider c.push.new.self (sym c.is_verification.ensures ∙ c.if-is_verification.false) c.in_ok-push.ensures.ok

pub returns-in_err-schedule-in-Request-clause-notes : goal.returns-in_err-schedule-in-Request-clause-notes
returns-in_err-schedule-in-Request-clause-notes g c =
    λ other. c.in_err-schedule-in-Request.ensures.notes (not_again c.from_residual.result other c.in_err-schedule-in-Request.field-0.0 c.from_residual.ensures.1)
