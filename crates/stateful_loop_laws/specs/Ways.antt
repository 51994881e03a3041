-- The ways of requests, as they are kept while the machine is up.
use Rattle.std.specs.Prelude.{◌≡◌, ℕ, Option, Some, List, ◌++◌, All}
use Rattle.stateful_base.specs.Names.{Named}
use Rattle.stateful_base.specs.declared.anchor.Anchor.{Anchor}
use Rattle.stateful_history.specs.Anchors.{anchor_of, tip_of}
use Rattle.stateful_history.specs.Past.{Past, after}
use Rattle.stateful_history.specs.declared.mark.Mark.{Mark}
use Rattle.stateful_exec_walk.specs.Path.{Path}
use Rattle.stateful_exec_model.specs.Workings.{Workings}
use Rattle.stateful_exec_pause.specs.declared.pause.Pause.TheVariants.{Free}
use Rattle.stateful_exec_tables.specs.declared.state.Tables.{Tables}
use Rattle.stateful_exec_tables.specs.declared.tables.Phase.TheVariants.{Parked}
use Rattle.stateful_exec_tables.specs.declared.tables.Requested.{Requested}
use Rattle.stateful_exec_laws.specs.Ways.{WaysStand}
use Rattle.stateful_loop_model.specs.Moments.{Moment}

-- no request is parked
abbrev pub ParksNone : {B C I : Type 0} → List (ℕ × Requested B C I) → Type 0
ParksNone {B} requests = All (λ e. (path : Path B) → e.1.phase ≡ Parked path → ⊥) requests

module _ {B C I P R D H G U : Type 0} (w : Workings B C I P R D H G U)
    (stored : ℕ → Option (Named B)) (p : Past B C I) where
  -- where the store has a block of the anchor's height, it has the anchor's
  abbrev pub StoresAnchor : Type 0
  StoresAnchor = (anchor : Anchor) (b : Named B) → anchor_of w.header p ≡ Some anchor
      → stored anchor.height.0 ≡ Some b → b.digest ≡ anchor.digest

  -- The ways of requests are open; the block of none of those that are on their way is final,
  -- unless it is that of the last finalization that began. Where nothing pauses no request is
  -- parked. And the store has the anchor's block, or none, at its height.
  pub record WaysKept (v : Tables B C I R U) : Type 0 where
    pub tip : Anchor
    pub tip_is : tip_of w.header p ≡ Some tip
    pub ways : WaysStand w stored p tip v
    pub unparked : v.pause ≡ Free → ParksNone v.requests
    pub stores : StoresAnchor

-- From one moment to a later one some marks are made, and the ways are kept with them.
pub record WaysBehind {B C I P R D H G U : Type 0} (w : Workings B C I P R D H G U)
    (stored : ℕ → Option (Named B))
    (p : Past B C I) (m now : Moment w) : Type 0 where
  pub more : List (Mark B)
  pub marks_are : now.marks ≡ m.marks ++ more
  pub kept : WaysKept w stored (after p more) now.execution.state
