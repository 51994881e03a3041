use Rattle.std.proofs.Common.{ap, refl}
use Rattle.stateful_exec_model.specs.Workings.{workings}
use Rattle.stateful_loop_model.specs.Intake.{build as by_build, hook as by_hook, run as by_run, building, hooking, running}
use Rattle.stateful_loop_model.specs.Moments.{executing, moment}
use Rattle.stateful_loop_model.proofs.Intakes.{err_to}
use Rattle.stateful_loop_model.proofs.NotesFollowing.{not_by_memory}
use Rattle.stateful_loop.proofs.intake.turn.Goals as goal

pub returns-in_err-turn_build-clause-fault : goal.returns-in_err-turn_build-clause-fault
returns-in_err-turn_build-clause-fault g c =
    err_to c.from_residual.result _ _ c.from_residual.ensures.1 (λ e is stored l.
    building (c.builds.ensures.yes c.if-builds.true) (c.in_err-turn_build.field-0.0, c.in_err-turn_build.ensures.fault, is))

pub returns-in_err-turn_hook-clause-fault : goal.returns-in_err-turn_hook-clause-fault
returns-in_err-turn_hook-clause-fault g c =
    err_to c.from_residual-in_err-turn_hook.result _ _ c.from_residual-in_err-turn_hook.ensures.1 (λ e is stored l.
    hooking (c.hooks.ensures.yes c.if-hooks.true) (c.in_err-turn_hook.field-0.0, c.in_err-turn_hook.ensures.fault, is))

pub returns-in_err-complete-clause-fault : goal.returns-in_err-complete-clause-fault
returns-in_err-complete-clause-fault g c =
    err_to c.from_residual-in_err-complete.result _ _ c.from_residual-in_err-complete.ensures.1 (λ e is stored l.
    running (λ (b, live). c.builds.ensures.no c.if-builds.false b live) (λ (b, hook, live). c.hooks.ensures.no c.if-hooks.false b hook live)
    (c.in_err-complete.field-0.0, c.in_err-complete.ensures.fault, is))

pub returns-in_ok-turn_build-clause-ok : goal.returns-in_ok-turn_build-clause-ok
returns-in_ok-turn_build-clause-ok g c =
    λ l. by_build (c.builds.ensures.yes c.if-builds.true) c.in_ok-turn_build.ensures.ok (rw c.in_ok-turn_build.ensures.front refl)

pub returns-in_ok-turn_hook-clause-ok : goal.returns-in_ok-turn_hook-clause-ok
returns-in_ok-turn_hook-clause-ok g c =
    let members = g.A.Databases.DatabaseSet.members c.args.databases.now in
    let next = g.A.Databases.DatabaseSet.next c.args.databases.now in
    let w = workings g.A.Block.Block.header g.A.Block.Block.context_of g.A.Context.Rounded.round_of g.A.Application.works g.A.Databases.DatabaseSet.kind g.A.Databases.DatabaseSet.shows in
    λ l. by_hook (λ (b, live). c.builds.ensures.no c.if-builds.false b live) (c.hooks.ensures.yes c.if-hooks.true) c.in_ok-turn_hook.ensures.ok
    (ap (λ handler. moment w (executing handler) l members next c.turn_hook.new.marks.items) c.in_ok-turn_hook.ensures.rest)

pub returns-in_ok-complete-clause-ok : goal.returns-in_ok-complete-clause-ok
returns-in_ok-complete-clause-ok g c =
    λ l. by_run (λ (b, live). c.builds.ensures.no c.if-builds.false b live) (λ (b, hook, live). c.hooks.ensures.no c.if-hooks.false b hook live)
    c.in_ok-complete.ensures.ok (rw c.in_ok-complete.ensures.build refl)

pub returns-in_err-complete-clause-notes : goal.returns-in_err-complete-clause-notes
returns-in_err-complete-clause-notes g c =
    λ other. c.in_err-complete.ensures.notes (not_by_memory c.from_residual-in_err-complete.result other c.in_err-complete.field-0.0 c.from_residual-in_err-complete.ensures.1)
