use Rattle.std.proofs.lemmas.Result.{IfOk-weaker}
use Rattle.stateful_exec_model.specs.Workings.{workings}
use Rattle.stateful_exec_model.proofs.Telling.{without_batch, other_targets, its_targets}
use Rattle.stateful_exec_turns.proofs.turning.end.Goals as goal

pub returns-in_default-clause-told : goal.returns-in_default-clause-told
returns-in_default-clause-told g c =
    without_batch (workings g.A.Block.Block.header g.A.Block.Block.context_of g.A.Context.Rounded.round_of g.A.Application.works g.A.Databases.DatabaseSet.kind g.A.Databases.DatabaseSet.shows)
    _ _ _ c.args.tables.now.cache _ c.in_default.is

pub returns-then-not-matches_sync_targets-clause-told : goal.returns-then-not-matches_sync_targets-clause-told
returns-then-not-matches_sync_targets-clause-told g c =
    other_targets (workings g.A.Block.Block.header g.A.Block.Block.context_of g.A.Context.Rounded.round_of g.A.Application.works g.A.Databases.DatabaseSet.kind g.A.Databases.DatabaseSet.shows)
    _ _ _ c.args.tables.now.cache _ c.in-Some.batch c.in-Some.is c.matches_sync_targets.result (rw (c.sync_targets-targets.ensures, c.inner.ensures) at c.matches_sync_targets.ensures) c.if-not-matches_sync_targets.true

pub returns-clause-told : goal.returns-clause-told
returns-clause-told g c =
    IfOk-weaker c.keep.result _ _ (its_targets (workings g.A.Block.Block.header g.A.Block.Block.context_of g.A.Context.Rounded.round_of g.A.Application.works g.A.Databases.DatabaseSet.kind g.A.Databases.DatabaseSet.shows)
    _ _ _ c.keep.new.self.cache _ c.in-Some.batch c.in-Some.is c.matches_sync_targets.result (rw (c.sync_targets-targets.ensures, c.inner.ensures) at c.matches_sync_targets.ensures) c.if-not-matches_sync_targets.false) c.keep.ensures.takes
