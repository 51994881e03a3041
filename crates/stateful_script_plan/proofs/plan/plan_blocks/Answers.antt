use Rattle.std.proofs.Common.{◌≡◌, ◌≤◌, List, ◌++◌, ◌∷◌, [], Some, refl, ap, ◌∙◌, arith}
use Rattle.stateful_script_plan.specs.declared.plan.Planned.{Planned}
use Rattle.stateful_script_plan.specs.declared.scratch.After.{After}
use Rattle.stateful_script_plan.specs.declared.scratch.After.TheVariants.{Initial}
use Rattle.stateful_script_plan.specs.Plan.{genesis, child}
use Rattle.stateful_script_plan.proofs.Planning.{Goes-first, Goes-more, made_length, kept_length}
use Rattle.stateful_script_plan.proofs.plan.plan_blocks.Goals as goal

pub loop-block-init : goal.loop-block-init
loop-block-init g c =
    let set = g.W.Databases.DatabaseSet in
    let n = set.next c.in_ok-databases.databases in
    let (at, scratch) = c.in_ok-databases.ensures in
    let targets = c.in_ok-targets.targets in
    let made : c.push.new.self.items ≡ genesis targets ∷ [] = c.in_ok-push.ensures.items ∙ ap (λ (xs : List Planned). xs ++ c.in_ok-genesis.field-0 ∷ []) c.new-made.ensures.items ∙ ap (λ (x : Planned). x ∷ []) c.in_ok-genesis.ensures in
    let kept : c.push-2.new.self.items ≡ Initial ∷ [] = c.in_ok-push-2.ensures.items ∙ ap (λ (xs : List (After g.row.W-Databases-Merkleized.Denot)). xs ++ Initial ∷ []) c.new-states.ensures.items in
    Goes-first g.W.World.rules set.kind set.shows n (set.members c.in_ok-databases.databases) at targets c.push.new.self.items c.push-2.new.self.items scratch (c.in_ok-targets.ensures n at (Some at.1) scratch.initial refl) made kept

pub index-parent-requires : goal.index-parent-requires
index-parent-requires g c =
    let set = g.W.Databases.DatabaseSet in
    let b = c.block-item.result in
    let i = c.loop-block.block-index in
    let low : b.parent ≤ i = rw (← c.block-item.is) at (c.requires i c.loop-block-test.true b) in
    omega (arith, kept_length g.W.World.rules set.kind set.shows c.args.blocks.now i (omega arith) (set.next c.loop-block.databases) (set.members c.loop-block.databases) c.loop-block.made.items c.loop-block.states.items c.loop-block.invariant)

pub index-requires : goal.index-requires
index-requires g c =
    let set = g.W.Databases.DatabaseSet in
    let b = c.block-item.result in
    let i = c.loop-block.block-index in
    let low : b.parent ≤ i = rw (← c.block-item.is) at (c.requires i c.loop-block-test.true b) in
    omega (arith, made_length g.W.World.rules set.kind set.shows c.args.blocks.now i (omega arith) (set.next c.loop-block.databases) (set.members c.loop-block.databases) c.loop-block.made.items c.loop-block.states.items c.loop-block.invariant)

pub loop-block-preserved : goal.loop-block-preserved
loop-block-preserved g c =
    let set = g.W.Databases.DatabaseSet in
    let b = c.block-item.result in
    let i = c.loop-block.block-index in
    let k = set.next c.step.new.databases in
    let low : b.parent ≤ i = rw (← c.block-item.is) at (c.requires i c.loop-block-test.true b) in
    let made : c.push-in-loop-block.new.self.items ≡ c.loop-block.made.items ++ child c.index.result.now b c.in_ok-targets-2.targets ∷ [] = cc (c.in_ok-push-3.ensures.items, c.in_ok-child.ensures) in
    let kept : c.push-in-loop-block-2.new.self.items ≡ c.loop-block.states.items ++ c.in_ok-after.after ∷ [] = cc c.in_ok-push-4.ensures.items in
    let steps = rw c.as_slice.ensures at c.in_ok-after.ensures.after in
    Goes-more g.W.World.rules set.kind set.shows c.args.blocks.now i c.loop-block-test.true (set.next c.loop-block.databases) (set.members c.loop-block.databases) c.loop-block.made.items c.loop-block.states.items c.loop-block.invariant b c.block-item.is low
    c.index.result.now c.index-parent.result.now c.index.ensures c.index-parent.ensures k (set.members c.step.new.databases) c.in_ok-after.after c.in_ok-targets-2.targets c.push-in-loop-block.new.self.items c.push-in-loop-block-2.new.self.items
    c.in_ok-after.ensures.members c.in_ok-after.ensures.keeps steps (λ at states start keeps. c.in_ok-targets-2.ensures k at states start keeps) made kept

pub returns-clause-one_each : goal.returns-clause-one_each
returns-clause-one_each g c =
    let set = g.W.Databases.DatabaseSet in
    let i = c.loop-block.block-index in
    omega (arith, made_length g.W.World.rules set.kind set.shows c.args.blocks.now i (omega arith) (set.next c.loop-block.databases) (set.members c.loop-block.databases) c.loop-block.made.items c.loop-block.states.items c.loop-block.invariant)
