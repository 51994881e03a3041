-- What requests keep that go along their ways: nothing that is final stands on these.
use Rattle.std.specs.Prelude.{◌≡◌, ◌≢◌, ℕ, Option, List, All}
use Rattle.stateful_base.specs.Names.{Named}
use Rattle.stateful_base.specs.declared.anchor.Anchor.{Anchor}
use Rattle.stateful_base.specs.declared.digest.Digest.{Digest}
use Rattle.stateful_history.specs.Canonical.{IsCanonical}
use Rattle.stateful_history.specs.Past.{Past}
use Rattle.stateful_exec_cache.specs.Cache.{IsIn, IsAtHand}
use Rattle.stateful_exec_cache.specs.declared.cache.Cached.{Cached}
use Rattle.stateful_exec_model.specs.Workings.{Workings}
use Rattle.stateful_exec_pause.specs.declared.pause.Pause.{Pause}
use Rattle.stateful_exec_pause.specs.declared.pause.Pause.TheVariants.{Free, Finalizing, Pruning}
use Rattle.stateful_exec_walk.specs.declared.request.Request.{Request}
use Rattle.stateful_exec_tables.specs.declared.state.Tables.{Tables}
use Rattle.stateful_exec_tables.specs.declared.tables.Phase.{Phase}
use Rattle.stateful_exec_tables.specs.declared.tables.Phase.TheVariants.{Executing, Parked}
use Rattle.stateful_exec_laws.specs.Setting.{setting}
use Rattle.stateful_exec_laws.specs.Requesting.{first_of, steps}

-- On which block a request is parked: on the finalized one, while a finalization goes on; before a
-- prune on a cached one; and where nothing pauses on one at hand.
abbrev pub IsParkedOn : {U : Type 0} → Pause → Anchor → List (Cached U) → Digest → Type 0
IsParkedOn (Finalizing boundary) anchor cache d = d ≡ boundary.digest
IsParkedOn Pruning anchor cache d = IsIn cache d
IsParkedOn Free anchor cache d = IsAtHand anchor cache d

-- none of these blocks is the anchor's
abbrev pub KeepOff : {B : Type 0} → Anchor → List (Named B) → Type 0
KeepOff anchor blocks = All (λ b. b.digest ≢ anchor.digest) blocks

module _ {B C I P R D H G U : Type 0} (w : Workings B C I P R D H G U)
    (stored : ℕ → Option (Named B)) (p : Past B C I) (tip : Anchor) where
  -- the block of the request isn't final, unless it is the tip
  abbrev pub IsUnsettled : Request B C I → Type 0
  IsUnsettled request =
      IsCanonical (setting w stored) p (first_of request) → (first_of request).digest ≡ tip.digest

  -- the anchor isn't on the way of a request that waits for a run, nor above the block on which one
  -- is parked
  abbrev pub IsOnOpenWay : Pause → Anchor → List (Cached U) → Request B C I → Phase B → Type 0
  IsOnOpenWay pause anchor cache request (Executing j path) =
      KeepOff anchor (steps path) × IsUnsettled request
  IsOnOpenWay pause anchor cache request (Parked path) =
      IsParkedOn pause anchor cache path.parent.digest
      × KeepOff anchor path.blocks
      × IsUnsettled request
  IsOnOpenWay pause anchor cache request phase = Unit {0}

  -- so it is for each request
  abbrev pub WaysStand : Tables B C I R U → Type 0
  WaysStand v = All (λ e. IsOnOpenWay v.pause v.anchor v.cache e.1.request e.1.phase) v.requests
