-- What a node remembers of its sync, in bytes.
use Rattle.std.specs.Prelude.{ℕ, List, [], ◌∷◌, ◌++◌, Some, None}
use Rattle.stateful_base.specs.Format.{Format}
use Rattle.stateful_base.specs.Finalization.{finalization_format}
use Rattle.stateful_base.specs.Number.{height_format}
use Rattle.stateful_base.specs.Digest.{digest_format}
use Rattle.stateful_sync_plan.specs.declared.state.SyncState.{SyncState}
use Rattle.stateful_sync_plan.specs.declared.state.SyncState.TheVariants.{InProgress, Complete}

module _ {S K C : Type 0} (certificate : Format C) where
  abbrev pub state_fits : SyncState S K C → Type 0
  state_fits (InProgress f) = (finalization_format certificate).fits f
  state_fits (Complete height None) = height_format.fits height
  state_fits (Complete height (Some digest)) = height_format.fits height × digest_format.fits digest

  abbrev pub state_bytes : SyncState S K C → List ℕ
  state_bytes (InProgress f) = 0 ∷ [] ++ (finalization_format certificate).spelling f
  state_bytes (Complete height None) = 1 ∷ [] ++ height_format.spelling height
  state_bytes (Complete height (Some digest)) =
      2 ∷ [] ++ (height_format.spelling height ++ digest_format.spelling digest)

  -- byte 0 and the floor; byte 1 and the height; or byte 2, the height and the digest
  abbrev pub state_format : Format (SyncState S K C)
  state_format = record { fits = state_fits; spelling = state_bytes }
