use Rattle.std.proofs.Common.{take}
use Rattle.std.specs.List.{Any}
use Rattle.stateful_db.specs.Barrier.{IsBroken, Polled}
use Rattle.stateful_db.proofs.barrier.Barrier.poll.Given as goal

-- the handles so far stand as the answer says, and none of them was interrupted
abbrev pub invariant-loop-handle : goal.invariant-loop-handle
invariant-loop-handle l = record {
  polled : Polled (take l.handle-index l.handle-items) l.poll;
  unbroken : Any IsBroken (take l.handle-index l.handle-items) → ⊥;
}
