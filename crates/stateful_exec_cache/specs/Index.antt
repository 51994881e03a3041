-- By which index the entries of a cache are found.
use Rattle.std.specs.Prelude.{◌≡◌, ◌≢◌, ℕ, Some, None, List, All, MatchOption, slice_get}
use Rattle.std.specs.BTreeMap.{BTreeMap, get}
use Rattle.stateful_base.specs.Digest.{digest_cmp}
use Rattle.stateful_base.specs.declared.digest.Digest.{Digest}
use Rattle.stateful_exec_cache.specs.declared.cache.Cached.{Cached}

-- the place of a digest is that of an entry of this digest, and the digest of each entry has a
-- place
pub record IsIndex {U : Type 0} (entries : List (Cached U))
    (places : BTreeMap Digest ℕ) : Type 0 where
  pub sound : (d : Digest) (i : ℕ)
      → get digest_cmp places d ≡ Some i
      → MatchOption (slice_get entries i) ⊥ (λ e. e.digest ≡ d)
  pub complete : All (λ e. get digest_cmp places e.digest ≢ None) entries
