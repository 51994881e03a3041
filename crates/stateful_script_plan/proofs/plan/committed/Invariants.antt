use Rattle.std.proofs.Common.{◌≡◌, map, take}
use Rattle.stateful_script_plan.specs.Plan.{under_wrong_root}
use Rattle.stateful_script_plan.proofs.plan.committed.Given as goal

abbrev pub invariant-loop-target : goal.invariant-loop-target
invariant-loop-target l = l.made ≡ map under_wrong_root (take l.target-index l.target-items)
