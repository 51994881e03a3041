use Rattle.std.proofs.Common.{◌≡◌, ◌++◌, ◌≤◌, ◌-◌}
use Rattle.std.specs.VecDeque.{deque_capacity, deque_len}
use Rattle.stateful_types.proofs.mailbox.refill.Given as goal

-- the messages are in their order, and no more are ready than may be
abbrev pub invariant-refilling : goal.invariant-refilling
invariant-refilling g l = record {
  order : l.ready.items ++ g.O.Overflow.items l.overflow ≡ l.fn.ready.items ++ g.O.Overflow.items l.fn.overflow;
  within : deque_len l.ready ≤ l.capacity;
  room : l.capacity ≤ deque_capacity l.ready;
}

abbrev pub decreases-refilling : goal.decreases-refilling
decreases-refilling g l = l.capacity - deque_len l.ready
