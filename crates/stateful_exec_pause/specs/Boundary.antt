-- How runs cross a finalization.
use Rattle.std.specs.Prelude.{◌≡◌, ◌≢◌, ◌↔◌, ◌⊎◌, List, Contains}
use Rattle.stateful_base.specs.Names.{Header, Named}
use Rattle.stateful_base.specs.Round.{IsLater}
use Rattle.stateful_base.specs.declared.digest.Digest.{Digest}
use Rattle.stateful_base.specs.declared.round.Round.{Round}
use Rattle.stateful_exec_pause.specs.declared.boundary.ExecutionStep.{ExecutionStep}
use Rattle.stateful_base.specs.Anchor.{anchor_by}
use Rattle.stateful_exec_cache.specs.Cache.{IsIn}
use Rattle.stateful_exec_cache.specs.Cut.{IsCutTo}
use Rattle.stateful_exec_cache.specs.declared.cache.Cached.{Cached}

-- the finalized block's digest and round, and which digests are compatible with it
pub record Boundary : Type 0 where
  pub digest : Digest
  pub round : Round
  pub compatible : List Digest

-- the block's digest, its parent and its round
abbrev pub step_by : {B : Type 0} → Header B → Named B → ExecutionStep
step_by header b =
    record { digest = b.digest; parent = header.parent b.block; round = header.round b.block }

-- another block than the finalized one, of a later round, on a compatible parent
pub record IsRetained (boundary : Boundary) (step : ExecutionStep) : Type 0 where
  pub other : step.digest ≢ boundary.digest
  pub later : IsLater boundary.round step.round
  pub parent : Contains boundary.compatible step.parent

-- one digest more is compatible
pub record Completes (digest : Digest) (old new : Boundary) : Type 0 where
  pub of : new.digest ≡ old.digest
  pub round : new.round ≡ old.round
  pub more : (d : Digest) → Contains new.compatible d ↔ ((d ≡ digest) ⊎ Contains old.compatible d)

-- The boundary of the finalization of a block: compatible are the block and its cached descendants
-- of later rounds.
pub record IsBoundaryOf {B U : Type 0} (header : Header B) (b : Named B) (cache : List (Cached U))
    (boundary : Boundary) : Type 0 where
  pub digest_is : boundary.digest ≡ b.digest
  pub round_is : boundary.round ≡ header.round b.block
  pub kept : List (Cached U)
  pub cut : IsCutTo (anchor_by header b) cache kept
  pub each : (d : Digest) → Contains boundary.compatible d ↔ ((d ≡ b.digest) ⊎ IsIn kept d)
