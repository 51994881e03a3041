use Rattle.std.proofs.Common.{take}
use Rattle.std.specs.BTreeSet.{keys}
use Rattle.stateful_exec_cache.proofs.Descending.{Gathers}
use Rattle.stateful_exec_cache.proofs.cache.Cache.descendants.Given as goal

abbrev pub invariant-loop-entry : goal.invariant-loop-entry
invariant-loop-entry g l = Gathers l.root (take l.entry-index l.self) (keys l.digests)
