use Rattle.std.proofs.Common.{◌∷◌, ◌++◌, [], refl, ap, ◌∙◌}
use Rattle.stateful_history.specs.declared.mark.JobKind.TheVariants as job
use Rattle.stateful_history.specs.declared.mark.Mark.TheVariants as mark
use Rattle.stateful_exec_model.specs.Building.FaultsPropose.{memory}
use Rattle.stateful_exec_model.specs.Workings.{workings}
use Rattle.stateful_loop_model.proofs.Handing.{refused, out_of_memory}
use Rattle.stateful_loop_model.proofs.Takes.{begun, declined}
use Rattle.stateful_loop_model.specs.Moments.{executing}
use Rattle.stateful_loop_model.proofs.NotesFollowing.{not_by_memory}
use Rattle.stateful_loop_taking.proofs.taking.build.Goals as goal

pub returns-in_err-started-clause-fault : goal.returns-in_err-started-clause-fault
returns-in_err-started-clause-fault g c = refused _ c.from_residual.result c.in_err-started.field-0.0 c.from_residual.ensures.1 c.in_err-started.ensures.fault

pub returns-in_err-push-in-Some-clause-fault : goal.returns-in_err-push-in-Some-clause-fault
returns-in_err-push-in-Some-clause-fault g c = out_of_memory _ c.from_residual-in_err-push-in-Some.result c.from_residual-in_err-push-in-Some.ensures.1 (memory refl)

pub returns-in_err-push-in-Declined-clause-fault : goal.returns-in_err-push-in-Declined-clause-fault
returns-in_err-push-in-Declined-clause-fault g c = out_of_memory _ c.from_residual-in_err-push-in-Declined.result c.from_residual-in_err-push-in-Declined.ensures.1
    (memory refl)

pub returns-in_ok-push-in-Some-clause-ok : goal.returns-in_ok-push-in-Some-clause-ok
returns-in_ok-push-in-Some-clause-ok g c = λ l.
    let w = workings g.A.Block.Block.header g.A.Block.Block.context_of g.A.Context.Rounded.round_of g.A.Application.works g.A.Databases.DatabaseSet.kind g.A.Databases.DatabaseSet.shows in
    begun w (executing c.args.handler.now) (executing c.propose.new.self) l (g.A.Databases.DatabaseSet.members c.args.databases.now)
    (g.A.Databases.DatabaseSet.members c.propose.new.databases) (g.A.Databases.DatabaseSet.next c.args.databases.now)
    (g.A.Databases.DatabaseSet.next c.propose.new.databases) c.args.marks.now.items c.push.new.self.items c.args.ticket c.args.provider c.in_ok-started.ensures.members c.in_ok-started.ensures.front
    c.in_ok-started.started c.in_ok-started.ensures.ok
    c.in-Started.job c.in-Some.build.now c.in-Started.is c.in-Some.ensures
    (c.in_ok-push-in-Some.ensures.items ∙ ap (λ digest. c.args.marks.now.items ++ mark.Started c.in-Started.job job.Build digest ∷ []) c.digest.ensures)

pub returns-in_ok-push-in-Declined-clause-ok : goal.returns-in_ok-push-in-Declined-clause-ok
returns-in_ok-push-in-Declined-clause-ok g c = λ l.
    let w = workings g.A.Block.Block.header g.A.Block.Block.context_of g.A.Context.Rounded.round_of g.A.Application.works g.A.Databases.DatabaseSet.kind g.A.Databases.DatabaseSet.shows in
    declined w (executing c.args.handler.now) (executing c.propose.new.self) l (g.A.Databases.DatabaseSet.members c.args.databases.now)
    (g.A.Databases.DatabaseSet.members c.propose.new.databases) (g.A.Databases.DatabaseSet.next c.args.databases.now)
    (g.A.Databases.DatabaseSet.next c.propose.new.databases) c.args.marks.now.items c.push-in-Declined.new.self.items c.args.ticket c.args.provider c.in_ok-started.ensures.members
    c.in_ok-started.ensures.front c.in_ok-started.started c.in_ok-started.ensures.ok
    c.in-Declined.is c.in_ok-push-in-Declined.ensures.items

pub returns-in_err-started-clause-notes : goal.returns-in_err-started-clause-notes
returns-in_err-started-clause-notes g c =
    λ other. c.in_err-started.ensures.notes (not_by_memory c.from_residual.result other c.in_err-started.field-0.0 c.from_residual.ensures.1)
