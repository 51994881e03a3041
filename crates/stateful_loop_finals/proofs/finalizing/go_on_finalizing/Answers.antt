use Rattle.std.proofs.Common.{◌∙◌, sym, refl, inr, Some, inl}
use Rattle.stateful_exec_model.specs.Workings.{workings}
use Rattle.stateful_loop_model.specs.Rules.{applies}
use Rattle.stateful_loop_model.proofs.Handing.{converted, err_holds}
use Rattle.stateful_loop_model.proofs.Leaving.{left_by_rule}
use Rattle.stateful_loop_model.proofs.Finalizations.{applies_with, fault_applied, counts_once, quiet_waiting}
use Rattle.stateful_loop_model.proofs.Fronts.{at_ran, begun_isnt_ran, begun_isnt_advanced, some_awaited}
use Rattle.stateful_loop_model.proofs.Rooms.{has_room}
use Rattle.stateful_loop_model.proofs.NotesFollowing.{NotesFollow-same, error_is, leaves_follow}
use Rattle.stateful_loop_model.specs.Moments.{executing, moment}
use Rattle.stateful_loop_model.proofs.Observing.{applies_leaves}
use Rattle.stateful_loop_finals.proofs.finalizing.go_on_finalizing.Goals as goal

pub returns-then-awaited-gt0-clause-ok : goal.returns-then-awaited-gt0-clause-ok
returns-then-awaited-gt0-clause-ok g c = λ provider.
    let w = workings g.A.Block.Block.header g.A.Block.Block.context_of g.A.Context.Rounded.round_of g.A.Application.works g.A.Databases.DatabaseSet.kind g.A.Databases.DatabaseSet.shows in
    let is = sym c.in-Begun.is ∙ c.progress_of.ensures in (
      quiet_waiting w _ c.args.front c.requires.finalizing
          (λ e zero. some_awaited c.awaited.result (counts_once c.awaited.result zero c.awaited.ensures) c.if-awaited-gt0.true)
          (λ e. begun_isnt_ran (is ∙ e)) (λ e. begun_isnt_advanced (is ∙ e)),
      refl,
    )

pub returns-in_err-run_or_apply-in-Begun-clause-fault : goal.returns-in_err-run_or_apply-in-Begun-clause-fault
returns-in_err-run_or_apply-in-Begun-clause-fault g c =
    converted _ c.from_residual.result c.in_err-run_or_apply-in-Begun.field-0.0 c.from_residual.ensures.1
    (c.in_err-run_or_apply-in-Begun.ensures.fault (g.S.BlockStore.stored c.args.store.now))

pub returns-in_err-apply-in-Ran-clause-fault : goal.returns-in_err-apply-in-Ran-clause-fault
returns-in_err-apply-in-Ran-clause-fault g c =
    let w = workings g.A.Block.Block.header g.A.Block.Block.context_of g.A.Context.Rounded.round_of g.A.Application.works g.A.Databases.DatabaseSet.kind g.A.Databases.DatabaseSet.shows in
    let ran = at_ran w c.args.processing.now.durability c.args.front c.args.handler.now.front c.requires.up.front (sym c.progress_of.ensures ∙ c.in-Ran.is) in
    converted _ c.from_residual-in_err-apply-in-Ran.result c.in_err-apply-in-Ran.field-0.0 c.from_residual-in_err-apply-in-Ran.ensures.1
    (fault_applied w _ _ _ _ _ c.args.front _ c.requires.finalizing (inr (ran.0, ran.1)) _ c.in_err-apply-in-Ran.ensures.fault)

pub go_on_advanced-requires-clause-room : goal.go_on_advanced-requires-clause-room
go_on_advanced-requires-clause-room g c = λ needed.
    let d = g.A.Databases.DatabaseSet.kind in
    let up = c.requires.up in
    has_room d g.met.A.Databases.DatabaseSet.laws.places (g.A.Databases.DatabaseSet.members c.args.databases.now) up.point up.here
    c.args.processing.now.barriers c.args.processing.now.durability.barriers up.heights up.tokens needed.0

pub returns-in_ok-run_or_apply-in-Begun-clause-ok : goal.returns-in_ok-run_or_apply-in-Begun-clause-ok
returns-in_ok-run_or_apply-in-Begun-clause-ok g c = λ provider. c.in_ok-run_or_apply-in-Begun.ensures.ok (g.S.BlockStore.stored c.args.store.now) provider

pub returns-in_ok-apply-in-Ran-clause-ok : goal.returns-in_ok-apply-in-Ran-clause-ok
returns-in_ok-apply-in-Ran-clause-ok g c = λ provider.
    let w = workings g.A.Block.Block.header g.A.Block.Block.context_of g.A.Context.Rounded.round_of g.A.Application.works g.A.Databases.DatabaseSet.kind g.A.Databases.DatabaseSet.shows in
    let ran = at_ran w c.args.processing.now.durability c.args.front c.args.handler.now.front c.requires.up.front (sym c.progress_of.ensures ∙ c.in-Ran.is) in
    applies c.requires.finalizing ran.2 (inr (ran.0, ran.1)) (applies_with w c.args.front _ _ (Some c.args.front) c.in_ok-apply-in-Ran.ensures.ok)

pub returns-in_err-apply-in-Ran-clause-left : goal.returns-in_err-apply-in-Ran-clause-left
returns-in_err-apply-in-Ran-clause-left g c =
    let w = workings g.A.Block.Block.header g.A.Block.Block.context_of g.A.Context.Rounded.round_of g.A.Application.works g.A.Databases.DatabaseSet.kind g.A.Databases.DatabaseSet.shows in
    let ran = at_ran w c.args.processing.now.durability c.args.front c.args.handler.now.front c.requires.up.front (sym c.progress_of.ensures ∙ c.in-Ran.is) in
    err_holds c.from_residual-in_err-apply-in-Ran.result
    (left_by_rule w c.args.front _ _ c.requires.finalizing (inr (ran.0, ran.1)) c.in_err-apply-in-Ran.ensures.left)

pub returns-in_err-run_or_apply-in-Begun-clause-noted : goal.returns-in_err-run_or_apply-in-Begun-clause-noted
returns-in_err-run_or_apply-in-Begun-clause-noted g c =
    converted _ c.from_residual.result c.in_err-run_or_apply-in-Begun.field-0.0 c.from_residual.ensures.1
    (λ other. inl (c.in_err-run_or_apply-in-Begun.ensures.noted other))

pub returns-in_err-apply-in-Ran-clause-noted : goal.returns-in_err-apply-in-Ran-clause-noted
returns-in_err-apply-in-Ran-clause-noted g c =
    converted _ c.from_residual-in_err-apply-in-Ran.result c.in_err-apply-in-Ran.field-0.0 c.from_residual-in_err-apply-in-Ran.ensures.1
    (λ other. inl (c.in_err-apply-in-Ran.ensures.notes (λ is. other (error_is _ is))))

pub returns-in_err-go_on_advanced-in-Advanced-clause-noted : goal.returns-in_err-go_on_advanced-in-Advanced-clause-noted
returns-in_err-go_on_advanced-in-Advanced-clause-noted g c =
    converted _ c.from_residual-in_err-go_on_advanced-in-Advanced.result c.in_err-go_on_advanced-in-Advanced.field-0.0
    c.from_residual-in_err-go_on_advanced-in-Advanced.ensures.1 c.in_err-go_on_advanced-in-Advanced.ensures.noted

pub returns-then-awaited-gt0-clause-notes : goal.returns-then-awaited-gt0-clause-notes
returns-then-awaited-gt0-clause-notes g c =
    NotesFollow-same g.A.Application.works.noted _ _ (Some c.args.front) _ _ _ refl refl refl

pub returns-in-Waiting-clause-notes : goal.returns-in-Waiting-clause-notes
returns-in-Waiting-clause-notes g c =
    NotesFollow-same g.A.Application.works.noted _ _ (Some c.args.front) _ _ _ refl refl refl

pub returns-in_ok-apply-in-Ran-clause-notes : goal.returns-in_ok-apply-in-Ran-clause-notes
returns-in_ok-apply-in-Ran-clause-notes g c =
    let w = workings g.A.Block.Block.header g.A.Block.Block.context_of g.A.Context.Rounded.round_of g.A.Application.works g.A.Databases.DatabaseSet.kind g.A.Databases.DatabaseSet.shows in
    let e = executing c.args.handler.now in
    let m = moment w e (record c.args.processing.now { front = Some c.args.front }) (g.A.Databases.DatabaseSet.members c.args.databases.now)
    (g.A.Databases.DatabaseSet.next c.args.databases.now) c.args.marks.now.items in
    let ran = at_ran w c.args.processing.now.durability c.args.front c.args.handler.now.front c.requires.up.front (sym c.progress_of.ensures ∙ c.in-Ran.is) in
    let now = moment w (executing c.apply.new.handler) c.apply.new.processing (g.A.Databases.DatabaseSet.members c.apply.new.databases)
    (g.A.Databases.DatabaseSet.next c.apply.new.databases) c.apply.new.marks.items in
    leaves_follow g.A.Application.works.noted w m now _ _
    (applies_leaves w c.args.front m now refl ran.2 (applies_with w c.args.front _ now (Some c.args.front) c.in_ok-apply-in-Ran.ensures.ok))
    (c.in_ok-apply-in-Ran.ensures.notes (λ is. cc))
