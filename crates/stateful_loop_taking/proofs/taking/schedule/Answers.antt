use Rattle.stateful_exec_model.specs.Workings.{workings}
use Rattle.stateful_loop_model.proofs.Handing.{refused}
use Rattle.stateful_loop_model.proofs.Takes.{scheduled}
use Rattle.stateful_loop_model.specs.Moments.{executing}
use Rattle.stateful_loop_model.proofs.NotesFollowing.{not_by_memory}
use Rattle.stateful_loop_taking.proofs.taking.schedule.Goals as goal

pub returns-in_err-schedule-clause-fault : goal.returns-in_err-schedule-clause-fault
returns-in_err-schedule-clause-fault g c = refused _ c.from_residual.result c.in_err-schedule.field-0.0 c.from_residual.ensures.1 c.in_err-schedule.ensures.fault

pub returns-clause-ok : goal.returns-clause-ok
returns-clause-ok g c = λ l.
    let w = workings g.A.Block.Block.header g.A.Block.Block.context_of g.A.Context.Rounded.round_of g.A.Application.works g.A.Databases.DatabaseSet.kind g.A.Databases.DatabaseSet.shows in
    scheduled w (executing c.args.handler.now) (executing c.schedule.new.self) l _ _ _ _ _ _ _ c.args.request c.in_ok-schedule.ensures.works c.in_ok-schedule.ensures.ok

pub returns-in_err-schedule-clause-notes : goal.returns-in_err-schedule-clause-notes
returns-in_err-schedule-clause-notes g c =
    λ other. c.in_err-schedule.ensures.notes (not_by_memory c.from_residual.result other c.in_err-schedule.field-0.0 c.from_residual.ensures.1)
