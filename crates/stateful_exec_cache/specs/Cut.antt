-- What stays of a cache where a block becomes the anchor.
use Rattle.std.specs.Prelude.{◌≡◌, ◌≢◌, ◌↔◌, ◌⊎◌, List, [], All, Any, Contains}
use Rattle.stateful_base.specs.Round.{IsLater}
use Rattle.stateful_base.specs.declared.digest.Digest.{Digest}
use Rattle.stateful_base.specs.declared.anchor.Anchor.{Anchor}
use Rattle.stateful_exec_cache.specs.Cache.{InOrder, IsIn}
use Rattle.stateful_exec_cache.specs.declared.cache.Cached.{Cached}

-- the entry is a child of the root or of one of these
abbrev pub GoesOn : {U : Type 0} → Anchor → List (Cached U) → Cached U → Type 0
GoesOn root kept e = (e.parent ≡ root.digest) ⊎ Any (λ k. k.digest ≡ e.parent) kept

-- The parent of each entry is this digest, or the digest of an entry before it. No entry is of this
-- digest, and entries of one digest are of one parent and one round.
pub record AreNamed {U : Type 0} (anchor : Digest) (entries : List (Cached U)) : Type 0 where
  pub in_order : InOrder anchor [] entries
  pub other : All (λ e. e.digest ≢ anchor) entries
  pub same : (e f : Cached U)
      → Contains entries e
      → Contains entries f
      → e.digest ≡ f.digest
      → (e.parent ≡ f.parent) × (e.round ≡ f.round)

-- The kept entries are the root's descendants of later rounds: each is one of the entries, of a
-- later round, behind its parent; and each other entry than the root, of a later round, that is a
-- child of the root or of a kept one is kept.
pub record IsCutTo {U : Type 0} (root : Anchor) (entries kept : List (Cached U)) : Type 0 where
  pub among : All (λ k. Contains entries k) kept
  pub later : All (λ k. IsLater root.round k.round) kept
  pub in_order : InOrder root.digest [] kept
  pub whole : (anchor : Digest)
      → AreNamed anchor entries
      → All
      (λ e. e.digest ≢ root.digest
      → IsLater root.round e.round
      → GoesOn root kept e
      → Contains kept e)
      entries

-- the batch is that of an entry of the root's digest
abbrev pub IsRootOf : {U : Type 0} → Anchor → List (Cached U) → U → Type 0
IsRootOf root entries batch = Any (λ e. (e.digest ≡ root.digest) × (e.batch ≡ batch)) entries

-- the entry is another than the root, of a later round, and a child of the root or of one of these
-- digests
pub record DescendsFrom {U : Type 0} (root : Anchor) (digests : List Digest)
    (e : Cached U) : Type 0 where
  pub other : e.digest ≢ root.digest
  pub later : IsLater root.round e.round
  pub behind : (e.parent ≡ root.digest) ⊎ Contains digests e.parent

-- these are the digests of the entries that are kept where this is the root
pub record AreDescendants {U : Type 0} (root : Anchor) (entries : List (Cached U))
    (digests : List Digest) : Type 0 where
  pub kept : List (Cached U)
  pub cut : IsCutTo root entries kept
  pub each : (d : Digest) → Contains digests d ↔ IsIn kept d
