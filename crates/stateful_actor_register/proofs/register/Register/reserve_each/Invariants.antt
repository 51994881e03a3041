use Rattle.std.proofs.Common.{take}
use Rattle.stateful_actor_register.specs.Register.{IsUnchanged, HasRoomForEach}
use Rattle.stateful_actor_register.proofs.register.Register.reserve_each.Given as goal

-- there is room for the changes so far
abbrev pub invariant-loop-change : goal.invariant-loop-change
invariant-loop-change l = record {
  same : IsUnchanged l.fn.self l.self;
  room : HasRoomForEach (take l.change-index l.changes) l.self;
}
