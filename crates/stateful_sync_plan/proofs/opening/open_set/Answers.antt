use Rattle.std.proofs.Common.{◌≡◌, Some, Ok, refl, sym, ap, ◌∙◌}
use Rattle.std.proofs.lemmas.Option.{same_Some}
use Rattle.stateful_sync_plan.specs.Opening.{opening_height, opened}
use Rattle.stateful_sync_plan.proofs.Openings.{told_of, stored_at, Opens-contradicted, IsToOpen-checked, Opens-refused}
use Rattle.stateful_sync_plan.proofs.opening.open_set.Goals as goal

pub returns-in_err-check_digest-clause-opens : goal.returns-in_err-check_digest-clause-opens
returns-in_err-check_digest-clause-opens g c =
    let kind = g.A.Databases.DatabaseSet.kind in
    let header = g.A.Block.Block.header in
    let members = g.A.Databases.DatabaseSet.members in
    let counted = g.A.Databases.DatabaseSet.counted in
    let stored = g.T.BlockStore.stored c.args.store.now in
    let n = opening_height c.args.processed c.args.completed in
    let height = c.height_of-height.result in
    let is = c.height_of-height.ensures in
    Opens-contradicted kind header g.A.Application.works.meaning.targets stored n c.args.completed (counted c.args.databases.now) (counted c.args.databases.now) (members c.args.databases.now) height c.in_ok-block.block c.digest.result c.in_err-check_digest.field-0.0 c.from_residual-in_err-check_digest.result is (stored_at stored height n c.in_ok-block.block is c.in_ok-block.ensures) c.digest.ensures c.in_err-check_digest.ensures c.from_residual-in_err-check_digest.ensures.1

pub returns-in_err-init-clause-opens : goal.returns-in_err-init-clause-opens
returns-in_err-init-clause-opens g c =
    let kind = g.A.Databases.DatabaseSet.kind in
    let header = g.A.Block.Block.header in
    let members = g.A.Databases.DatabaseSet.members in
    let counted = g.A.Databases.DatabaseSet.counted in
    let stored = g.T.BlockStore.stored c.args.store.now in
    let n = opening_height c.args.processed c.args.completed in
    let height = c.height_of-height.result in
    let is = c.height_of-height.ensures in
    let block = c.in_ok-block.block in
    let targets_of = g.A.Application.works.meaning.targets in
    let targets = told_of targets_of c.sync_targets-targets.result c.inner.result.now block.block c.sync_targets-targets.ensures c.inner.ensures in
    let to = IsToOpen-checked kind header targets_of stored n c.args.completed height block c.digest.result is (stored_at stored height n block is c.in_ok-block.ensures) c.digest.ensures c.in_ok-check_digest.ensures in
    Opens-refused kind header targets_of stored n c.args.completed (counted c.args.databases.now) (counted c.init.new.self) (members c.args.databases.now) block c.in_err-init.field-0.0.index c.in_err-init.field-0.0.why (members c.init.new.self) _ c.from_residual-in_err-init.result to c.in_err-init.ensures.index (λ bound. rw (← targets) (c.in_err-init.ensures.cause bound)) refl c.from_residual-in_err-init.ensures.1

pub returns-clause-opens : goal.returns-clause-opens
returns-clause-opens g c =
    let kind = g.A.Databases.DatabaseSet.kind in
    let header = g.A.Block.Block.header in
    let stored = g.T.BlockStore.stored c.args.store.now in
    let n = opening_height c.args.processed c.args.completed in
    let height = c.height_of-height.result in
    let is = c.height_of-height.ensures in
    let block = c.in_ok-block.block in
    let targets_of = g.A.Application.works.meaning.targets in
    let targets = told_of targets_of c.sync_targets-targets.result c.inner.result.now block.block c.sync_targets-targets.ensures c.inner.ensures in
    let to = IsToOpen-checked kind header targets_of stored n c.args.completed height block c.digest.result is (stored_at stored height n block is c.in_ok-block.ensures) c.digest.ensures c.in_ok-check_digest.ensures in
    opened block to (rw (← targets) c.in_ok-init.ensures.ok) (ap Ok c.from_block.ensures)

pub returns-clause-opening : goal.returns-clause-opening
returns-clause-opening g c =
    let stored = g.T.BlockStore.stored c.args.store.now in
    let n = opening_height c.args.processed c.args.completed in
    let height = c.height_of-height.result in
    let targets_of = g.A.Application.works.meaning.targets in
    λ openable block s.
    let same : c.in_ok-block.block ≡ block = same_Some _ _ (sym (stored_at stored height n c.in_ok-block.block c.height_of-height.ensures c.in_ok-block.ensures) ∙ s) in
    let targets = told_of targets_of c.sync_targets-targets.result c.inner.result.now block.block c.sync_targets-targets.ensures (c.inner.ensures ∙ ap (λ b. b.block) same) in
    c.in_ok-init.ensures.opening openable _ (ap Some targets)
