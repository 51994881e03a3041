use Rattle.stateful_actor_register.specs.Register.{IsUnchanged}
use Rattle.stateful_actor_register.proofs.register.Register.release_each.Given as goal

abbrev pub invariant-loop-change : goal.invariant-loop-change
invariant-loop-change l = IsUnchanged l.fn.self l.self
