-- What execution stands for: its tables, its live build and the finalization that goes on, on the
-- ground of verdicts.
use Rattle.std.specs.Prelude.{◌≡◌, ℕ, Option, Some, None, IsSome, List, [], ◌∷◌, ◌++◌, All}
use Rattle.stateful_base.specs.Names.{Header, Named}
use Rattle.stateful_base.specs.Anchor.{anchor_by}
use Rattle.stateful_base.specs.declared.digest.Digest.{Digest}
use Rattle.stateful_history.specs.Joined.{TrueIsEarned}
use Rattle.stateful_history.specs.Finalizations.{IsChildOf}
use Rattle.stateful_history.specs.Met.{Met, TrueNames}
use Rattle.stateful_history.specs.Past.{Past, EachMark, after}
use Rattle.stateful_history.specs.declared.mark.Mark.{Mark}
use Rattle.stateful_exec_pause.specs.Boundary.{Boundary}
use Rattle.stateful_exec_tables.specs.Meeting.{GoesOn}
use Rattle.stateful_exec_model.specs.Workings.{Workings, Point}
use Rattle.stateful_exec_model.specs.declared.front.Front.{Front}
use Rattle.stateful_exec_model.specs.declared.front.Stage.{Stage}
use Rattle.stateful_exec_model.specs.declared.front.Stage.TheVariants.{Begun, Running, Ran, Advanced}
use Rattle.stateful_exec_model.specs.declared.front.Stage.TheVariants.{Hooking}
use Rattle.stateful_exec_pause.specs.declared.pause.Pause.TheVariants.{Free, Finalizing}
use Rattle.stateful_exec_tables.specs.declared.state.Tables.{Tables}
use Rattle.stateful_exec_tables.specs.declared.tables.Phase.TheVariants.{Fetching}
use Rattle.stateful_exec_tables.specs.declared.tables.Requested.{Requested}
use Rattle.stateful_exec_laws.specs.Building.{BuildStands}
use Rattle.stateful_exec_laws.specs.Crossing.{Finalizes, HasMovedSo}
use Rattle.stateful_exec_laws.specs.Fronting.{FrontStands}
use Rattle.stateful_exec_laws.specs.Caching.{CacheStands}
use Rattle.stateful_exec_laws.specs.Ground.{IsFolded, IsOfBlock, IsGround}
use Rattle.stateful_exec_laws.specs.Setting.{setting}
use Rattle.stateful_exec_laws.specs.Standing.{TablesStand}
use Rattle.stateful_loop_model.specs.Moments.{Moment}

-- no request fetches
abbrev pub FetchesNone : {B C I : Type 0} → List (ℕ × Requested B C I) → Type 0
FetchesNone requests = All (λ e. (f : ℕ) → e.1.phase ≡ Fetching f → ⊥) requests

-- where a finalization goes on, each live candidate run is of a block that goes on over it
abbrev pub RunsGoOver : {B C I R U : Type 0} → Header B → Tables B C I R U → Type 0
RunsGoOver header v = All (λ e. GoesOn header v.pause e.1.block) v.runs

module _ {B C I P R D H G U : Type 0} (w : Workings B C I P R D H G U)
    (stored : ℕ → Option (Named B)) (base : w.States) (p : Past B C I) where
  module _ (points : Digest → Point w) (point : Point w) (next : w.Ids) (v : Tables B C I R U) where
    -- nothing pauses, and the ground is there at the anchor
    pub record IsFree : Type 0 where
      pub pause_is : v.pause ≡ Free
      pub ground : IsGround w stored base p points point next v.anchor Free v.anchor v.cache

    -- The ground where a finalization goes on: its block is the tip, one of the history, a child of
    -- the anchor and one above it.
    pub record IsGroundFor (b : Named B) (boundary : Boundary) : Type 0 where
      pub stands : CacheStands w stored p points next v.anchor (Finalizing boundary) v.cache
      pub at_anchor : points v.anchor.digest ≡ point
      pub names : TrueNames (setting w stored) p
      pub folded : IsFolded w stored base p v.anchor (anchor_by w.header b) point
      pub top : IsOfBlock w stored p v.anchor
      pub met : Met (setting w stored) p b
      pub child : IsChildOf w.header v.anchor b

    -- execution is paused for the finalization of this block, which isn't the anchor yet; no
    -- request fetches
    pub record IsPausedFor (b : Named B) : Type 0 where
      pub boundary : Boundary
      pub pause_is : v.pause ≡ Finalizing boundary
      pub finalizes : Finalizes w stored p v.anchor v.cache boundary
      pub ground : IsGroundFor b boundary
      pub settled : FetchesNone v.requests

    -- besides, each live candidate run goes on over that block
    pub record IsPausedOver (b : Named B) : Type 0 where
      pub paused : IsPausedFor b
      pub over : RunsGoOver w.header v

    -- the block of the finalization is the anchor, and the ground is there as it is without the
    -- pause; no request fetches
    pub record HasMovedOn : Type 0 where
      pub moved : HasMovedSo v
      pub ground : IsGround w stored base p points point next v.anchor Free v.anchor v.cache
      pub settled : FetchesNone v.requests

    abbrev pub IsPlacedAt : Named B → Stage R U H → Type 0
    IsPlacedAt b Begun = IsPausedFor b
    IsPlacedAt b (Running j run) = IsPausedOver b
    IsPlacedAt b (Ran batch) = IsPausedOver b
    IsPlacedAt b Advanced = HasMovedOn
    IsPlacedAt b (Hooking j hook) = HasMovedOn

    -- what execution is paused for: nothing, or the finalization that goes on, until its block is
    -- applied and beyond
    abbrev pub IsPlaced : Option (Front B R U H) → Type 0
    IsPlaced None = IsFree
    IsPlaced (Some f) = IsPlacedAt f.block f.stage

  -- The tables, the live build and the finalization that goes on stand for the past, over the
  -- points of blocks; execution is paused for that finalization alone, and no build is live beside
  -- it.
  pub record Executes (m : Moment w) : Type 0 where
    pub points : Digest → Point w
    pub point : Point w
    pub located : w.kind.point m.members ≡ Some point
    pub drawn : w.kind.issued m.next (point ∷ [])
    pub tables : TablesStand w stored p points point m.next m.execution.state
    pub builds : BuildStands w stored p points m.next m.execution.state m.execution.build
    pub fronts : FrontStands w stored p point m.next m.execution.state.anchor m.execution.front
    pub placed : IsPlaced points point m.next m.execution.state m.execution.front
    pub alone : IsSome m.execution.build → m.execution.front ≡ None

module _ {B C I P R D H G U : Type 0} (w : Workings B C I P R D H G U)
    (stored : ℕ → Option (Named B)) (base : w.States) (p : Past B C I)
    (m now : Moment w) where
  -- where some marks were made, names are true with them
  abbrev pub NamesBehind : Type 0
  NamesBehind =
      (more : List (Mark B))
      → now.marks ≡ m.marks ++ more
      → TrueNames (setting w stored) (after p more)

  -- From one moment to a later one some marks are made; execution stands for the past with them,
  -- and true verdicts among them are earned.
  pub record ExecutesBehind : Type 0 where
    pub more : List (Mark B)
    pub marks_are : now.marks ≡ m.marks ++ more
    pub executes : Executes w stored base (after p more) now
    pub earned : EachMark (TrueIsEarned (setting w stored) base) p more
