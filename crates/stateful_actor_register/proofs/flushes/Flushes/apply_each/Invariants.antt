use Rattle.std.proofs.Common.{take}
use Rattle.stateful_actor_register.specs.Flushes.{FlushesApply}
use Rattle.stateful_actor_register.proofs.flushes.Flushes.apply_each.Given as goal

-- the changes so far are taken in
abbrev pub invariant-loop-change : goal.invariant-loop-change
invariant-loop-change l = FlushesApply l.count l.fn.self l.self (take l.change-index l.changes)
