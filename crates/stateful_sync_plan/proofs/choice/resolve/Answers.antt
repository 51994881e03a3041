use Rattle.std.proofs.Common.{refl}
use Rattle.stateful_sync_plan.specs.Choice.{next, fetch, IsStored, Resolves}
use Rattle.stateful_sync_plan.proofs.Choices.{only_right, passed_right, found, not_found, one_start, processed_start, missing_start}
use Rattle.stateful_sync_plan.proofs.choice.resolve.Goals as goal

pub returns-in_default-clause-only : goal.returns-in_default-clause-only
returns-in_default-clause-only g c =
    let f = c.args.finalization.now in
    λ other. one_start (g.T.BlockStore.stored c.args.store.now) c.args.floor.now f.round f.payload _ other (fetch c.in_default.ensures refl)

pub returns-in-Some-2-clause-resolves : goal.returns-in-Some-2-clause-resolves
returns-in-Some-2-clause-resolves g c =
    let is = found _ _ c.in_ok-block.field-0 c.in-Some-2.block c.in_ok-block.ensures c.in-Some-2.is in
    next c.in-Some.processed c.in-Some-2.block c.in-Some.ensures is.0 is.1 refl

pub returns-in-Some-2-clause-only : goal.returns-in-Some-2-clause-only
returns-in-Some-2-clause-only g c =
    let f = c.args.finalization.now in
    λ other. one_start (g.T.BlockStore.stored c.args.store.now) c.args.floor.now f.round f.payload _ other (returns-in-Some-2-clause-resolves g c)

pub returns-in_err-block_at-clause-resolves : goal.returns-in_err-block_at-clause-resolves
returns-in_err-block_at-clause-resolves g c =
    let stored = g.T.BlockStore.stored c.args.store.now in
    let f = c.args.finalization.now in
    passed_right (IsStored stored c.in-Some.processed) (Resolves stored c.args.floor.now f.round f.payload)
    (missing_start stored c.args.floor.now f.round f.payload c.in-Some.processed c.in-Some.ensures (not_found _ _ c.in_ok-block.field-0 c.in_ok-block.ensures c.in_default-2.is))
    _ c.in_err-block_at.ensures _ c.from_residual-in_err-block_at.ensures.1

pub returns-in_err-block_at-clause-only : goal.returns-in_err-block_at-clause-only
returns-in_err-block_at-clause-only g c =
    let stored = g.T.BlockStore.stored c.args.store.now in
    let f = c.args.finalization.now in
    only_right (Resolves stored c.args.floor.now f.round f.payload) (one_start stored c.args.floor.now f.round f.payload) _ (returns-in_err-block_at-clause-resolves g c)

pub returns-clause-resolves : goal.returns-clause-resolves
returns-clause-resolves g c =
    let f = c.args.finalization.now in
    processed_start (g.T.BlockStore.stored c.args.store.now) c.args.floor.now f.round f.payload c.in-Some.processed c.in-Some.ensures
    (not_found _ _ c.in_ok-block.field-0 c.in_ok-block.ensures c.in_default-2.is) _ c.in_ok-block_at.ensures

pub returns-clause-only : goal.returns-clause-only
returns-clause-only g c =
    let f = c.args.finalization.now in
    λ other. one_start (g.T.BlockStore.stored c.args.store.now) c.args.floor.now f.round f.payload _ other (returns-clause-resolves g c)
