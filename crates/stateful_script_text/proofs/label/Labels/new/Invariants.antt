use Rattle.std.proofs.Common.{drop}
use Rattle.stateful_script_text.specs.LabelIndex.{IsIndexFrom}
use Rattle.stateful_script_text.proofs.label.Labels.new.Given as goal

abbrev pub invariant-loop-place : goal.invariant-loop-place
invariant-loop-place l = IsIndexFrom l.place (drop l.place l.labels) l.places
