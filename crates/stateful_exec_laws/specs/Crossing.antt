-- What holds while execution is paused for a finalization, before and after its block is the
-- anchor.
use Rattle.std.specs.Prelude.{◌≡◌, ◌⊎◌, ℕ, Option, List, All, Contains, MatchOption}
use Rattle.stateful_base.specs.Names.{Named}
use Rattle.stateful_base.specs.declared.anchor.Anchor.{Anchor}
use Rattle.stateful_base.specs.declared.digest.Digest.{Digest}
use Rattle.stateful_history.specs.Anchors.{tip_of}
use Rattle.stateful_history.specs.Met.{Met}
use Rattle.stateful_history.specs.Past.{Past}
use Rattle.stateful_exec_cache.specs.declared.cache.Cached.{Cached}
use Rattle.stateful_exec_pause.specs.Boundary.{Boundary, step_by, IsRetained}
use Rattle.stateful_exec_tables.specs.Keeping.{step_in}
use Rattle.stateful_exec_model.specs.Workings.{Workings}
use Rattle.stateful_exec_pause.specs.declared.pause.Pause.TheVariants.{Finalizing}
use Rattle.stateful_exec_tables.specs.declared.state.Tables.{Tables}
use Rattle.stateful_exec_laws.specs.Setting.{setting}

module _ {B C I P R D H G U : Type 0} (w : Workings B C I P R D H G U)
    (stored : ℕ → Option (Named B)) where
  -- a block of the history of this digest goes on over the finalization
  pub record IsOver (p : Past B C I) (boundary : Boundary) (d : Digest) : Type 0 where
    pub block : Named B
    pub met : Met (setting w stored) p block
    pub is : block.digest ≡ d
    pub retained : IsRetained boundary (step_by w.header block)

  -- A finalization goes on: its block is the tip; what is compatible is it and blocks that go on
  -- over it, but not the anchor; and each cached block that goes on over it is.
  pub record Finalizes (p : Past B C I) (anchor : Anchor) (cache : List (Cached U))
      (boundary : Boundary) : Type 0 where
    pub tip : MatchOption (tip_of w.header p) ⊥
        (λ t. (t.digest ≡ boundary.digest) × (t.round ≡ boundary.round))
    pub other : Contains boundary.compatible anchor.digest → ⊥
    pub own : Contains boundary.compatible boundary.digest
    pub each : (d : Digest)
        → Contains boundary.compatible d
        → (d ≡ boundary.digest) ⊎ IsOver p boundary d
    pub closed : All
        (λ e. IsRetained boundary (step_in e) → Contains boundary.compatible e.digest) cache

-- The anchor has moved to the block that is being finalized, and each cached block is compatible
-- with it.
pub record HasMoved {U : Type 0} (anchor : Anchor) (cache : List (Cached U))
    (boundary : Boundary) : Type 0 where
  pub digest_is : anchor.digest ≡ boundary.digest
  pub round_is : anchor.round ≡ boundary.round
  pub own : Contains boundary.compatible boundary.digest
  pub compatible : All (λ e. Contains boundary.compatible e.digest) cache

-- the anchor's move, with a pause
pub record HasMovedSo {B C I R U : Type 0} (v : Tables B C I R U) : Type 0 where
  pub boundary : Boundary
  pub pause_is : v.pause ≡ Finalizing boundary
  pub moved : HasMoved v.anchor v.cache boundary
