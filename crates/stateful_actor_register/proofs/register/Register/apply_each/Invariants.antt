use Rattle.std.proofs.Common.{◌≡◌, take}
use Rattle.stateful_actor_register.specs.Register.{Applies, HasRoomForEach}
use Rattle.stateful_actor_register.proofs.register.Register.apply_each.Given as goal

-- the changes so far are taken in, and there is room for all of them
abbrev pub invariant-loop-change : goal.invariant-loop-change
invariant-loop-change l = record {
  applies : Applies l.fn.self l.self (take l.change-index l.changes);
  room : HasRoomForEach l.changes l.self;
  flushes : l.self.flushes ≡ l.fn.self.flushes;
}
