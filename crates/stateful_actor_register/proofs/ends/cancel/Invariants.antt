use Rattle.std.proofs.Common.{◌≡◌, ◌++◌, take}
use Rattle.stateful_actor_register.specs.Ends.{cancelled}
use Rattle.stateful_actor_register.proofs.ends.cancel.Given as goal

abbrev pub invariant-loop-job : goal.invariant-loop-job
invariant-loop-job g l = l.marks.items ≡ l.fn.marks.items ++ cancelled (take l.job-index l.jobs)
