use Rattle.std.proofs.Common.{◌≡◌, map}
use Rattle.std.specs.Map.Iter.{deref_pair}
use Rattle.stateful_actor_register.proofs.Listed.{numbers_of}
use Rattle.stateful_actor_register.proofs.live.Live.numbers.Given as goal

-- the live ones of the entries so far
abbrev pub invariant-loop-number : goal.invariant-loop-number
invariant-loop-number g l = l.numbers.items ≡ numbers_of (map deref_pair l.yielded)
