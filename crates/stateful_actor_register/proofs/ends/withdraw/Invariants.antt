use Rattle.std.proofs.Common.{◌≡◌, ◌++◌, take}
use Rattle.stateful_actor_register.specs.Ends.{withdrawn}
use Rattle.stateful_actor_register.proofs.ends.withdraw.Given as goal

abbrev pub invariant-loop-fetch : goal.invariant-loop-fetch
invariant-loop-fetch g l = l.marks.items ≡ l.fn.marks.items ++ withdrawn (take l.fetch-index l.fetches)
