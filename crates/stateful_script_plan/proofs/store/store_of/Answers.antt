use Rattle.std.proofs.Common.{◌∷◌, [], take, length, refl, sym, ◌∙◌}
use Rattle.std.proofs.lemmas.Option.{get_or_from_slice_get, slice_get_read}
use Rattle.std.specs.Ordering.{nat_cmp}
use Rattle.std.specs.BTreeMap.{get}
use Rattle.stateful_script_plan.specs.Events.{planned_at}
use Rattle.stateful_script_plan.specs.Plan.{genesis}
use Rattle.stateful_script_plan.specs.Store.{finalized}
use Rattle.stateful_script_plan.proofs.Kept.{kept_more}
use Rattle.stateful_script_plan.proofs.store.store_of.Goals as goal

pub loop-event-init : goal.loop-event-init
loop-event-init c =
    let b = c.index-planned-0.result in
    let there = slice_get_read c.args.planned.now (length c.args.planned.now) 0 b refl c.requires.genesis c.index-planned-0.is in
    let here = get_or_from_slice_get c.args.planned.now 0 b b there in
    let first = get_or_from_slice_get c.args.planned.now 0 b (genesis []) there in
    rw (here ∙ sym first) at (c.in_ok-store_block.ensures [] c.new-store.ensures)

pub loop-event-preserved : goal.loop-event-preserved
loop-event-preserved c =
    let keeps = c.in_ok-store_finalized.ensures ((planned_at c.args.planned.now 0).block ∷ finalized c.args.planned.now (take c.loop-event.event-index c.args.script.now)) c.loop-event.invariant in
    kept_more (get nat_cmp c.store_finalized.new.store.blocks) (planned_at c.args.planned.now 0).block c.args.planned.now c.args.script.now c.loop-event.event-index c.event-item.result c.loop-event-test.true c.event-item.is keeps
