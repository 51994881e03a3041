use Rattle.stateful_script_plan.proofs.Labels.{labels_more, labels_all}
use Rattle.stateful_script_plan.proofs.label.label_blocks.Goals as goal

pub loop-place-preserved : goal.loop-place-preserved
loop-place-preserved c =
    labels_more c.args.names.now c.args.planned.now c.loop-place.place c.index-names-place.result c.index-planned-place.result _ _ _ c.requires c.loop-place-test.true c.index-names-place.is c.index-planned-place.is c.in_ok-label.ensures c.loop-place.invariant c.in_ok-push.ensures.items

pub returns : goal.returns
returns c = labels_all c.args.names.now c.args.planned.now c.loop-place.place c.loop-place.labels.items c.requires c.loop-place-test.false c.loop-place.invariant
