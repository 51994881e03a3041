use Rattle.std.proofs.Common.{refl, subst}
use Rattle.stateful_base.specs.declared.number.Height.{Height}
use Rattle.stateful_sync_plan.specs.Choice.{IsBehind, IsStored, ResolvesFetched, itself}
use Rattle.stateful_sync_plan.proofs.Choices.{right_too, overtaken_start}
use Rattle.stateful_sync_plan.proofs.choice.resolve_fetched.Goals as goal

pub returns-in-Some-higher_than-clause-resolves : goal.returns-in-Some-higher_than-clause-resolves
returns-in-Some-higher_than-clause-resolves g c =
    let stored = g.T.BlockStore.stored c.args.store.now in
    let height_of = g.B.Block.header.height in
    let p = c.in-Some-higher_than.processed in
    let behind : IsBehind c.args.floor.now (height_of c.in-Some.block.block) p = subst (λ (h : Height). IsBehind c.args.floor.now h.0 p) c.height.ensures c.in-Some-higher_than.ensures in
    right_too (IsStored stored p) (ResolvesFetched stored c.args.floor.now height_of c.args.answer) (overtaken_start stored c.args.floor.now height_of c.args.answer c.in-Some.block p c.in-Some.is behind) _ c.block_at.ensures

pub returns-in-None-clause-resolves : goal.returns-in-None-clause-resolves
returns-in-None-clause-resolves g c =
    let never = subst (λ (h : Height). (p : Height) → IsBehind c.args.floor.now h.0 p → ⊥) c.height.ensures c.in-None.ensures in
    itself c.in-Some.block c.in-Some.is never refl
