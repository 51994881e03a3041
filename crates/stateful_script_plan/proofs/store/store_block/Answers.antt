use Rattle.std.proofs.Common.{true, false}
use Rattle.std.specs.Ordering.{nat_cmp}
use Rattle.std.specs.BTreeMap.{get}
use Rattle.stateful_script_plan.proofs.Kept.{found_at, kept_already, kept_first}
use Rattle.stateful_script_plan.proofs.store.store_block.Goals as goal

pub returns-then-is_some : goal.returns-then-is_some
returns-then-is_some c =
    let stored = get nat_cmp c.args.store.now.blocks in
    let there = found_at stored c.args.block.now _ _ _ true c.height.ensures c.in_ok-at.ensures c.is_some.ensures c.if-is_some.true in
    λ blocks keeps. kept_already stored blocks c.args.block.now there keeps

pub returns : goal.returns
returns c =
    let stored = get nat_cmp c.args.store.now.blocks in
    let none = found_at stored c.args.block.now _ _ _ false c.height.ensures c.in_ok-at.ensures c.is_some.ensures c.if-is_some.false in
    let inserted = rw c.in_ok-share.ensures at c.in_ok-insert.ensures.ok in
    λ blocks keeps. kept_first stored (get nat_cmp c.insert.new.self.blocks) blocks c.args.block.now none inserted keeps
