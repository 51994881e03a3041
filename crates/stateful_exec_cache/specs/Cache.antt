-- What is cached.
use Rattle.std.specs.Prelude.{◌≡◌, ◌⊎◌, List, [], ◌∷◌, ◌++◌, Any, Contains}
use Rattle.stateful_base.specs.declared.digest.Digest.{Digest}
use Rattle.stateful_base.specs.declared.anchor.Anchor.{Anchor}
use Rattle.stateful_exec_cache.specs.declared.cache.Cached.{Cached}

-- an entry of this digest is cached
abbrev pub IsIn : {U : Type 0} → List (Cached U) → Digest → Type 0
IsIn cache digest = Any (λ e. e.digest ≡ digest) cache

-- the digest is the anchor's, or that of a cached block
abbrev pub IsAtHand : {U : Type 0} → Anchor → List (Cached U) → Digest → Type 0
IsAtHand anchor cache digest = (digest ≡ anchor.digest) ⊎ IsIn cache digest

-- the parent of each entry is the anchor, or the block of an entry before it
abbrev pub InOrder : {U : Type 0} → Digest → List Digest → List (Cached U) → Type 0
InOrder anchor earlier [] = Unit {0}
InOrder anchor earlier (e ∷ es) =
    ((e.parent ≡ anchor) ⊎ Contains earlier e.parent) × InOrder anchor (earlier ++ e.digest ∷ []) es
