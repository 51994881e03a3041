-- The cache stands for a past: what is known is what is cached, or, while a finalization goes on,
-- what is cached and compatible.
use Rattle.std.specs.Prelude.{◌≡◌, ◌≢◌, ◌↔◌, ◌⊎◌, ℕ, Option, List, [], ◌∷◌, All, Contains}
use Rattle.stateful_base.specs.Names.{Named}
use Rattle.stateful_base.specs.declared.anchor.Anchor.{Anchor}
use Rattle.stateful_base.specs.declared.digest.Digest.{Digest}
use Rattle.stateful_history.specs.Setting.{parent_of, round_of}
use Rattle.stateful_history.specs.Past.{Past}
use Rattle.stateful_history.specs.Met.{Met}
use Rattle.stateful_history.specs.Known.{Known}
use Rattle.stateful_exec_cache.specs.Cache.{IsIn, IsAtHand, InOrder}
use Rattle.stateful_exec_cache.specs.declared.cache.Cached.{Cached}
use Rattle.stateful_exec_model.specs.Workings.{Workings, Point}
use Rattle.stateful_exec_pause.specs.declared.pause.Pause.{Pause}
use Rattle.stateful_exec_pause.specs.declared.pause.Pause.TheVariants.{Free, Finalizing, Pruning}
use Rattle.stateful_exec_laws.specs.Setting.{setting}
use Rattle.stateful_exec_laws.specs.Chains.{Chain}

-- which blocks are known by the anchor, the cache and the pause
abbrev pub IsKnownBy : {U : Type 0} → Pause → Anchor → List (Cached U) → Digest → Type 0
IsKnownBy (Finalizing boundary) anchor cache d =
    (d ≡ boundary.digest) ⊎ (IsIn cache d × Contains boundary.compatible d)
IsKnownBy Free anchor cache d = IsAtHand anchor cache d
IsKnownBy Pruning anchor cache d = IsAtHand anchor cache d

module _ {B C I P R D H G U : Type 0} (w : Workings B C I P R D H G U)
    (stored : ℕ → Option (Named B)) (p : Past B C I) (points : Digest → Point w) (next : w.Ids)
    (anchor : Anchor) where
  -- the entry is of a block of the history, another one than the anchor, and its batch stands on
  -- that block's chain
  pub record IsCached (e : Cached U) : Type 0 where
    pub block : Named B
    pub met : Met (setting w stored) p block
    pub digest_is : block.digest ≡ e.digest
    pub parent_is : parent_of (setting w stored) block ≡ e.parent
    pub round_is : round_of (setting w stored) block ≡ e.round
    pub other : e.digest ≢ anchor.digest
    pub below : List (Point w)
    pub chain : Chain w stored p points anchor.digest e.digest (points e.digest ∷ below)
    pub drawn : w.kind.issued next (points e.digest ∷ below)
    pub shows : w.shows e.batch (points e.digest ∷ below)

  -- each entry stands on its block's chain, behind its parent, and the known blocks are those that
  -- the cache and the pause tell
  pub record CacheStands (pause : Pause) (cache : List (Cached U)) : Type 0 where
    pub each : All IsCached cache
    pub in_order : InOrder anchor.digest [] cache
    pub knows : (d : Digest) → Known (setting w stored) p d ↔ IsKnownBy pause anchor cache d
