-- The ground of verdicts and reasons: the databases are where the applied blocks lead to, and the
-- cache stands above them.
use Rattle.std.specs.Prelude.{◌≡◌, ◌≤◌, ℕ, Option, Some, List, All, Contains}
use Rattle.stateful_base.specs.Names.{Named}
use Rattle.stateful_base.specs.Anchor.{anchor_by}
use Rattle.stateful_base.specs.Round.{IsLater}
use Rattle.stateful_base.specs.declared.anchor.Anchor.{Anchor}
use Rattle.stateful_base.specs.declared.digest.Digest.{Digest}
use Rattle.stateful_history.specs.Anchors.{applied, anchor_of, tip_of}
use Rattle.stateful_history.specs.Met.{Met, TrueNames}
use Rattle.stateful_history.specs.Past.{Past}
use Rattle.stateful_history.specs.Setting.{parent_of}
use Rattle.stateful_history.specs.States.{fold}
use Rattle.stateful_exec_cache.specs.declared.cache.Cached.{Cached}
use Rattle.stateful_exec_pause.specs.Boundary.{Boundary, IsRetained}
use Rattle.stateful_exec_tables.specs.Keeping.{step_in}
use Rattle.stateful_exec_model.specs.Workings.{Workings, Point}
use Rattle.stateful_exec_pause.specs.declared.pause.Pause.{Pause}
use Rattle.stateful_exec_pause.specs.declared.pause.Pause.TheVariants.{Free, Finalizing, Pruning}
use Rattle.stateful_exec_laws.specs.Setting.{setting}
use Rattle.stateful_exec_laws.specs.Caching.{CacheStands}

-- each cached block that goes on over the finalization is compatible with it
abbrev pub IsClosed : {U : Type 0} → Boundary → List (Cached U) → Type 0
IsClosed boundary cache =
    All (λ e. IsRetained boundary (step_in e) → Contains boundary.compatible e.digest) cache

-- where a finalization goes on, that is so, and the anchor's block doesn't go on over it
abbrev pub IsClosedBy : {U : Type 0} → Pause → Anchor → List (Cached U) → Type 0
IsClosedBy (Finalizing boundary) anchor cache =
    IsClosed boundary cache × IsLater anchor.round boundary.round
IsClosedBy Free anchor cache = Unit {0}
IsClosedBy Pruning anchor cache = Unit {0}

-- The databases are where the applied blocks lead to, and there is an anchor and a tip.
pub record IsFolded {B C I P R D H G U : Type 0} (w : Workings B C I P R D H G U)
    (stored : ℕ → Option (Named B)) (base : w.States) (p : Past B C I) (anchor tip : Anchor)
    (point : Point w) : Type 0 where
  pub anchor_is : anchor_of w.header p ≡ Some anchor
  pub tip_is : tip_of w.header p ≡ Some tip
  pub folded : fold (setting w stored) (Some base) (applied p) ≡ Some point.1

module _ {B C I P R D H G U : Type 0} (w : Workings B C I P R D H G U)
    (stored : ℕ → Option (Named B)) (p : Past B C I) where
  -- the anchor is that of a block of the history
  pub record IsOfBlock (anchor : Anchor) : Type 0 where
    pub block : Named B
    pub met : Met (setting w stored) p block
    pub is : anchor ≡ anchor_by w.header block

  -- A finalization goes on: its block is the tip, a child of the anchor, no lower than it and of a
  -- later round. It is compatible, and so is each cached block that goes on over it.
  pub record IsFinal (anchor : Anchor) (cache : List (Cached U)) (tip : Anchor)
      (boundary : Boundary) : Type 0 where
    pub block : Named B
    pub met : Met (setting w stored) p block
    pub tip_is : tip ≡ anchor_by w.header block
    pub digest_is : boundary.digest ≡ block.digest
    pub round_is : boundary.round ≡ w.header.round block.block
    pub on_anchor : parent_of (setting w stored) block ≡ anchor.digest
    pub higher : anchor.height.0 ≤ w.header.height block.block
    pub later : IsLater anchor.round boundary.round
    pub own : Contains boundary.compatible boundary.digest
    pub closed : IsClosed boundary cache

  -- the tip is the anchor, or the block of the finalization that goes on
  abbrev pub IsTipBy : Pause → Anchor → List (Cached U) → Anchor → Type 0
  IsTipBy (Finalizing boundary) anchor cache tip = IsFinal anchor cache tip boundary
  IsTipBy Free anchor cache tip = tip ≡ anchor
  IsTipBy Pruning anchor cache tip = tip ≡ anchor

module _ {B C I P R D H G U : Type 0} (w : Workings B C I P R D H G U)
    (stored : ℕ → Option (Named B)) (base : w.States) (p : Past B C I) (points : Digest → Point w)
    (point : Point w) (next : w.Ids) (tip : Anchor) where
  -- the cache stands, names are true, the databases are where the applied blocks lead to, and so on
  pub record IsGround (pause : Pause) (anchor : Anchor) (cache : List (Cached U)) : Type 0 where
    pub stands : CacheStands w stored p points next anchor pause cache
    pub at_anchor : points anchor.digest ≡ point
    pub names : TrueNames (setting w stored) p
    pub folded : IsFolded w stored base p anchor tip point
    pub top : IsOfBlock w stored p anchor
    pub tip_by : IsTipBy w stored p pause anchor cache tip
