use Rattle.std.proofs.Common.{inl, Some, refl}
use Rattle.std.proofs.lemmas.Result.{on_ok_weaker, MatchResult-weaker}
use Rattle.stateful_exec_model.specs.Workings.{workings}
use Rattle.stateful_loop_model.specs.Causes.{running}
use Rattle.stateful_loop_model.specs.Rules.{applies, runs}
use Rattle.stateful_loop_model.proofs.Handing.{converted}
use Rattle.stateful_loop_model.proofs.Leaving.{left_by_rule}
use Rattle.stateful_loop_model.proofs.Finalizations.{is_cached, not_cached, applies_with, fault_applied}
use Rattle.stateful_loop_model.proofs.NotesFollowing.{error_is, stay_ok, stays_refused, leaves_follow}
use Rattle.stateful_loop_model.proofs.Observing.{applies_leaves, runs_leaves}
use Rattle.stateful_loop_model.specs.Moments.{executing, moment}
use Rattle.stateful_loop_finals.proofs.finalizing.run_or_apply.Goals as goal

pub returns-in_err-run-clause-fault : goal.returns-in_err-run-clause-fault
returns-in_err-run-clause-fault g c =
    let uncached = not_cached c.args.handler.now.state.cache c.digest.result c.args.front.block.digest c.cached.result
    c.digest.ensures c.cached.ensures c.if-cached.false in
    converted _ c.from_residual.result c.in_err-run.field-0.0 c.from_residual.ensures.1
    (λ stored. running c.requires.finalizing c.requires.begun c.requires.idle uncached c.in_err-run.ensures.fault)

pub returns-then-cached-clause-ok : goal.returns-then-cached-clause-ok
returns-then-cached-clause-ok g c =
    let w = workings g.A.Block.Block.header g.A.Block.Block.context_of g.A.Context.Rounded.round_of g.A.Application.works g.A.Databases.DatabaseSet.kind g.A.Databases.DatabaseSet.shows in
    let cached = is_cached c.args.handler.now.state.cache c.digest.result c.args.front.block.digest c.cached.result
    c.digest.ensures c.cached.ensures c.if-cached.true in
    on_ok_weaker c.apply.result (λ a stored provider. applies c.requires.finalizing c.requires.unread (inl (c.requires.begun, c.requires.idle, cached))
    (applies_with w c.args.front _ _ (Some c.args.front) a))
    c.apply.ensures.ok

pub returns-then-cached-clause-fault : goal.returns-then-cached-clause-fault
returns-then-cached-clause-fault g c =
    let w = workings g.A.Block.Block.header g.A.Block.Block.context_of g.A.Context.Rounded.round_of g.A.Application.works g.A.Databases.DatabaseSet.kind g.A.Databases.DatabaseSet.shows in
    let cached = is_cached c.args.handler.now.state.cache c.digest.result c.args.front.block.digest c.cached.result
    c.digest.ensures c.cached.ensures c.if-cached.true in
    MatchResult-weaker c.apply.result c.apply.ensures.fault (λ x p. p)
    (λ e f stored. fault_applied w stored _ _ _ _ c.args.front _ c.requires.finalizing (inl (c.requires.begun, c.requires.idle, cached)) e f)

pub returns-in_ok-run-clause-ok : goal.returns-in_ok-run-clause-ok
returns-in_ok-run-clause-ok g c = λ stored provider.
    let uncached = not_cached c.args.handler.now.state.cache c.digest.result c.args.front.block.digest c.cached.result
    c.digest.ensures c.cached.ensures c.if-cached.false in
    runs c.requires.finalizing c.requires.begun c.requires.idle uncached (c.in_ok-run.ensures.ok (record c.args.processing.now { front = Some c.args.front }))

pub returns-then-cached-clause-left : goal.returns-then-cached-clause-left
returns-then-cached-clause-left g c =
    let w = workings g.A.Block.Block.header g.A.Block.Block.context_of g.A.Context.Rounded.round_of g.A.Application.works g.A.Databases.DatabaseSet.kind g.A.Databases.DatabaseSet.shows in
    let cached = is_cached c.args.handler.now.state.cache c.digest.result c.args.front.block.digest c.cached.result
    c.digest.ensures c.cached.ensures c.if-cached.true in
    MatchResult-weaker c.apply.result c.apply.ensures.left (λ x p. p)
    (λ e left. left_by_rule w c.args.front _ _ c.requires.finalizing (inl (c.requires.begun, c.requires.idle, cached)) left)

pub returns-in_err-run-clause-noted : goal.returns-in_err-run-clause-noted
returns-in_err-run-clause-noted g c =
    converted _ c.from_residual.result c.in_err-run.field-0.0 c.from_residual.ensures.1 (λ other. c.in_err-run.ensures.notes (λ is. other (error_is _ is)))

pub returns-then-cached-clause-notes : goal.returns-then-cached-clause-notes
returns-then-cached-clause-notes g c =
    let w = workings g.A.Block.Block.header g.A.Block.Block.context_of g.A.Context.Rounded.round_of g.A.Application.works g.A.Databases.DatabaseSet.kind g.A.Databases.DatabaseSet.shows in
    let e = executing c.args.handler.now in
    let m = moment w e (record c.args.processing.now { front = Some c.args.front }) (g.A.Databases.DatabaseSet.members c.args.databases.now)
    (g.A.Databases.DatabaseSet.next c.args.databases.now) c.args.marks.now.items in
    let now = moment w (executing c.apply.new.handler) c.apply.new.processing (g.A.Databases.DatabaseSet.members c.apply.new.databases)
    (g.A.Databases.DatabaseSet.next c.apply.new.databases) c.apply.new.marks.items in
    stay_ok c.apply.result c.apply.ensures.ok c.apply.ensures.notes
    (λ a stay. leaves_follow g.A.Application.works.noted w m now _ _
    (applies_leaves w c.args.front m now refl c.requires.unread (applies_with w c.args.front _ now (Some c.args.front) a)) stay)

pub returns-then-cached-clause-noted : goal.returns-then-cached-clause-noted
returns-then-cached-clause-noted g c = stays_refused c.apply.result c.apply.ensures.notes

pub returns-in_ok-run-clause-notes : goal.returns-in_ok-run-clause-notes
returns-in_ok-run-clause-notes g c =
    let w = workings g.A.Block.Block.header g.A.Block.Block.context_of g.A.Context.Rounded.round_of g.A.Application.works g.A.Databases.DatabaseSet.kind g.A.Databases.DatabaseSet.shows in
    let e = executing c.args.handler.now in
    let m = moment w e (record c.args.processing.now { front = Some c.args.front }) (g.A.Databases.DatabaseSet.members c.args.databases.now)
    (g.A.Databases.DatabaseSet.next c.args.databases.now) c.args.marks.now.items in
    let now = moment w (executing c.run.new.handler) (record c.args.processing.now { front = Some c.args.front }) (g.A.Databases.DatabaseSet.members c.run.new.databases)
    (g.A.Databases.DatabaseSet.next c.run.new.databases) c.run.new.marks.items in
    leaves_follow g.A.Application.works.noted w m now _ _
    (runs_leaves w c.args.front.block m now (c.in_ok-run.ensures.ok (record c.args.processing.now { front = Some c.args.front })))
    (c.in_ok-run.ensures.notes (λ is. cc))
