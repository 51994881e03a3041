use Rattle.std.proofs.Common.{◌≡◌, ◌≢◌, ◌++◌, MatchOption, All}
use Rattle.stateful_exec_cache.specs.Cut.{IsRootOf}
use Rattle.stateful_exec_cache.proofs.Cutting.{Cuts}
use Rattle.stateful_exec_cache.proofs.cache.Cache.cut.Given as goal

abbrev pub invariant-loop-entry : goal.invariant-loop-entry
invariant-loop-entry g l = record {
  all : l.yielded ++ l.entry-iterator.rest.items ≡ l.fn.self;
  cuts : Cuts l.root l.yielded l.cut.kept;
  root : MatchOption l.cut.root (All (λ e. e.digest ≢ l.root.digest) l.yielded) (λ batch. IsRootOf l.root l.yielded batch);
}
