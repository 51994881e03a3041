use Rattle.std.proofs.Common.{rules, ◌≡◌, Err, ap}
use Rattle.stateful_exec_model.specs.Workings.{workings}
use Rattle.stateful_loop_model.proofs.Handing.{converted, err_holds}
use Rattle.stateful_loop_model.specs.declared.error.StepError.TheVariants.{OutOfMemory}
use Rattle.stateful_actor_step.proofs.Counts.{NeverFalls-itself}
use Rattle.stateful_actor_step.proofs.OtherErrors.{only_bad}
use Rattle.stateful_actor.proofs.Adding.{added}
use Rattle.stateful_actor.proofs.MediaKept.{entry-unchanged, entry-refused}
use Rattle.stateful_actor.proofs.driving.enter.Goals as goal

pub returns-clause-ok : goal.returns-clause-ok
returns-clause-ok g c =
    let event : c.in_ok-kept.kept ≡ c.args.event = search rules in
    let marks : c.from_vec.result ≡ c.in_ok-marks.marks.items = search rules in
    let longer = added _ _ _ _ c.in_ok-push.ensures.items c.in_ok-reserve.ensures.items in
    (c.in_ok-marks.marks.items, rw (event, marks) at longer, c.in_ok-marks.ensures.ok)

pub returns-in_err-reserve-clause-err : goal.returns-in_err-reserve-clause-err
returns-in_err-reserve-clause-err g c =
    let D = g.A.Databases.DatabaseSet in
    let w = workings g.A.Block.Block.header g.A.Block.Block.context_of g.A.Context.Rounded.round_of g.A.Application.works D.kind D.shows in
    converted _ c.from_residual.result OutOfMemory c.from_residual.ensures.1
    (entry-unchanged w g.met.A.Databases.DatabaseSet.laws (g.S.BlockStore.stored c.args.store.now) _ _ c.args.event _)

pub returns-in_err-kept-clause-err : goal.returns-in_err-kept-clause-err
returns-in_err-kept-clause-err g c =
    let D = g.A.Databases.DatabaseSet in
    let w = workings g.A.Block.Block.header g.A.Block.Block.context_of g.A.Context.Rounded.round_of g.A.Application.works D.kind D.shows in
    converted _ c.from_residual-in_err-kept.result OutOfMemory c.from_residual-in_err-kept.ensures.1
    (entry-unchanged w g.met.A.Databases.DatabaseSet.laws (g.S.BlockStore.stored c.args.store.now) _ _ c.args.event _)

pub returns-in_err-marks-clause-err : goal.returns-in_err-marks-clause-err
returns-in_err-marks-clause-err g c =
    let D = g.A.Databases.DatabaseSet in
    let w = workings g.A.Block.Block.header g.A.Block.Block.context_of g.A.Context.Rounded.round_of g.A.Application.works D.kind D.shows in
    converted _ c.from_residual-in_err-marks.result c.in_err-marks.field-0.0 c.from_residual-in_err-marks.ensures.1
    (entry-refused w g.met.A.Databases.DatabaseSet.laws (g.S.BlockStore.stored c.args.store.now) _ _ c.args.event _ _ _ c.requires.working
    c.in_err-marks.ensures.err)

pub returns-in_err-marks-clause-calm : goal.returns-in_err-marks-clause-calm
returns-in_err-marks-clause-calm g c =
    err_holds c.from_residual-in_err-marks.result
    (λ working. (only_bad c.in_err-marks.field-0.0 _ _ c.in_err-marks.ensures.fails (λ is. c.in_err-marks.ensures.unchanged (ap Err is)) working).1)

pub returns-in_err-reserve-clause-never_falls : goal.returns-in_err-reserve-clause-never_falls
returns-in_err-reserve-clause-never_falls g c = NeverFalls-itself _ _

pub returns-in_err-kept-clause-never_falls : goal.returns-in_err-kept-clause-never_falls
returns-in_err-kept-clause-never_falls g c = NeverFalls-itself _ _
