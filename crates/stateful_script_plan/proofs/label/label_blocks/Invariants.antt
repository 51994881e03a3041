use Rattle.std.proofs.Common.{◌≡◌, take}
use Rattle.stateful_script_plan.specs.Plan.{labels_of}
use Rattle.stateful_script_plan.proofs.label.label_blocks.Given as goal

abbrev pub invariant-loop-place : goal.invariant-loop-place
invariant-loop-place l = l.labels.items ≡ take l.place (labels_of l.names l.planned)
