-- Cuts of the cache.
use Rattle.std.proofs.Common.{◌≡◌, ◌≢◌, Option, Some, None, IfNone, MatchOption, List, All, subst}
use Rattle.stateful_base.specs.declared.digest.Digest.{Digest}
use Rattle.stateful_base.specs.declared.anchor.Anchor.{Anchor}
use Rattle.stateful_exec_cache.specs.Cut.{IsRootOf}
use Rattle.stateful_exec_cache.specs.declared.cache.Cached.{Cached}

-- the root wasn't among the entries, where none was taken out
pub cut_none : {U : Type 0} (root : Anchor) (digest : Digest) (cache : List (Cached U)) (o : Option U) → root.digest ≡ digest
    → MatchOption o (All (λ e. e.digest ≢ root.digest) cache) (λ batch. IsRootOf root cache batch) → IfNone o (All (λ e. e.digest ≢ digest) cache)
cut_none root digest cache None is h = subst (λ (d : Digest). All (λ e. e.digest ≢ d) cache) is h
cut_none root digest cache (Some batch) is h = tt
