use Rattle.std.proofs.Common.{ap, subst, inr, refl, ◌∙◌}
use Rattle.stateful_base.specs.Causes.{Rose}
use Rattle.stateful_exec_model.specs.Moments as exec
use Rattle.stateful_exec_model.specs.Pausing.{FaultsResume}
use Rattle.stateful_exec_model.specs.Workings.{workings}
use Rattle.stateful_loop_model.specs.Errors.{error_of_exec}
use Rattle.stateful_loop_model.specs.Moments.{executing}
use Rattle.stateful_loop_model.proofs.Handing.{converted}
use Rattle.stateful_loop_model.proofs.Finalizations.{ends_finalization}
use Rattle.stateful_loop_model.proofs.NotesFollowing.{not_by_memory}
use Rattle.stateful_loop_applies.proofs.applying.end_finalization.Goals as goal

pub returns-in_err-resume-clause-fault : goal.returns-in_err-resume-clause-fault
returns-in_err-resume-clause-fault g c =
    let w = workings g.A.Block.Block.header g.A.Block.Block.context_of g.A.Context.Rounded.round_of g.A.Application.works g.A.Databases.DatabaseSet.kind g.A.Databases.DatabaseSet.shows in
    let fault = c.in_err-resume.field-0.0 in
    converted _ c.from_residual-in_err-resume.result (error_of_exec fault) c.from_residual-in_err-resume.ensures.1
    (inr (
      fault,
      subst
          (λ h. FaultsResume w (Rose (g.A.Faulty.count h.application) (g.A.Faulty.count c.resume.new.self.application)) (g.S.BlockStore.stored c.args.store.now)
          (exec.moment w h.state (g.A.Databases.DatabaseSet.members c.args.databases.now) (g.A.Databases.DatabaseSet.next c.args.databases.now) c.args.marks.now.items) fault)
          c.drop_root.ensures c.in_err-resume.ensures.fault,
      refl,
    ))

pub returns-clause-ok : goal.returns-clause-ok
returns-clause-ok g c =
    let w = workings g.A.Block.Block.header g.A.Block.Block.context_of g.A.Context.Rounded.round_of g.A.Application.works g.A.Databases.DatabaseSet.kind g.A.Databases.DatabaseSet.shows in
    let o = c.in_ok-resume.ensures in
    ends_finalization w (g.S.BlockStore.stored c.args.store.now) c.args.ticket c.args.block
    (executing c.args.handler.now) (executing c.drop_root.new.self) (executing c.resume.new.self)
    c.args.processing.now c.record.new.self c.height.result
    (g.A.Databases.DatabaseSet.members c.args.databases.now) (g.A.Databases.DatabaseSet.members c.resume.new.databases)
    (g.A.Databases.DatabaseSet.next c.args.databases.now) (g.A.Databases.DatabaseSet.next c.resume.new.databases) c.args.marks.now.items c.resume.new.marks.items
    (ap executing c.drop_root.ensures) o.works.0 o.works.1 o.ok c.height.ensures c.in_ok-record.ensures.held c.requires.none

pub returns-in_err-resume-clause-notes : goal.returns-in_err-resume-clause-notes
returns-in_err-resume-clause-notes g c =
    λ other. c.in_err-resume.ensures.notes (not_by_memory c.from_residual-in_err-resume.result other c.in_err-resume.field-0.0 c.from_residual-in_err-resume.ensures.1)
    ∙ ap (λ h. g.A.Application.notes h.application) c.drop_root.ensures
