use Rattle.std.proofs.Common.{◌≡◌, Bool, filter, map}
use Rattle.std.specs.Fn.{FnReturnsAt}
use Rattle.std.specs.List.{All}
use Rattle.std.specs.Map.Iter.{deref}
use Rattle.stateful_base.specs.Round.{IsLater}
use Rattle.stateful_base.specs.declared.finalization.Finalization.{Finalization}
use Rattle.stateful_probe_sample.proofs.sample.highest_reply.Given as goal

-- the replies so far that the test answers are all of earlier rounds than the highest
abbrev pub invariant-loop-reply : goal.invariant-loop-reply
invariant-loop-reply g l =
    (judges : Finalization g.row.C.Denot → Bool)
    → ((f : Finalization g.row.C.Denot) (b : Bool) → FnReturnsAt g.F.Fn l.judgeable f b → b ≡ judges f)
    → All (λ f. IsLater f.round l.highest) (filter judges (map deref l.yielded))
