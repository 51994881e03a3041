use Rattle.std.proofs.Common.{◌≡◌, ◌≤◌, Bool, length, filter, map}
use Rattle.std.specs.Fn.{FnReturnsAt}
use Rattle.std.specs.Map.Iter.{deref}
use Rattle.stateful_base.specs.declared.finalization.Finalization.{Finalization}
use Rattle.stateful_probe_sample.proofs.Highest.{IsHighestSoFar}
use Rattle.stateful_probe_sample.proofs.sample.highest_round.Given as goal

-- the count is that of the replies so far that the test answers, and the round is the highest of these
abbrev pub invariant-loop-reply : goal.invariant-loop-reply
invariant-loop-reply g l = record {
  below : l.count ≤ length l.yielded;
  judged : (judges : Finalization g.row.C.Denot → Bool)
      → ((f : Finalization g.row.C.Denot) (b : Bool) → FnReturnsAt g.F.Fn l.judgeable f b → b ≡ judges f)
      → (l.count ≡ length (filter judges (map deref l.yielded))) × IsHighestSoFar (filter judges (map deref l.yielded)) l.highest;
}
