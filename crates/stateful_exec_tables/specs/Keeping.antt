-- What the cache keeps of a block.
use Rattle.std.specs.Prelude.{◌≡◌, ◌≢◌, ◌⊎◌, ◌+◌, ◌++◌, ◌∷◌, [], List, Any}
use Rattle.stateful_base.specs.Names.{Header, Named}
use Rattle.stateful_base.specs.Round.{IsLater}
use Rattle.stateful_base.specs.declared.anchor.Anchor.{Anchor}
use Rattle.stateful_history.specs.declared.mark.How.{How}
use Rattle.stateful_history.specs.declared.mark.How.TheVariants.{Kept, Missed}
use Rattle.stateful_exec_cache.specs.Cache.{IsIn, IsAtHand}
use Rattle.stateful_exec_cache.specs.declared.cache.Cached.{Cached}
use Rattle.stateful_table.specs.Table.{at}
use Rattle.stateful_exec_pause.specs.Boundary.{step_by}
use Rattle.stateful_exec_pause.specs.declared.boundary.ExecutionStep.{ExecutionStep}
use Rattle.stateful_exec_tables.specs.declared.error.ExecError.{ExecError}
use Rattle.stateful_exec_tables.specs.declared.error.ExecError.TheVariants.{OutOfMemory}
use Rattle.stateful_exec_tables.specs.declared.error.ExecError.TheVariants.{PendingChanged}
use Rattle.stateful_exec_tables.specs.declared.error.ExecError.TheVariants.{ProposalStale}

-- what an entry of the cache is of
abbrev pub step_in : {U : Type 0} → Cached U → ExecutionStep
step_in e = record { digest = e.digest; parent = e.parent; round = e.round }

-- What the cache takes of a block: an entry that is there keeps its states; a new one comes behind
-- the others where the block is later than the anchor and its parent is the anchor or cached; else
-- it is missed.
pub data Takes {B U : Type 0} (header : Header B) (anchor : Anchor) (b : Named B) (batch : U)
    (old new : List (Cached U)) : How
    → Type 0 where
  there : Any (λ e. step_in e ≡ step_by header b) old
      → new ≡ old
      → Takes header anchor b batch old new Kept
  added : (IsIn old b.digest → ⊥)
      → IsLater anchor.round (header.round b.block)
      → IsAtHand anchor old (header.parent b.block)
      → new ≡ old
      ++ record {
        digest =
            b.digest;
        parent =
            header.parent b.block;
        round = header.round b.block;
        batch = batch;
      }
      ∷ []
      → Takes header anchor b batch old new Kept
  missed : (IsIn old b.digest → ⊥)
      → (IsLater anchor.round (header.round b.block) → ⊥)
      ⊎ (IsAtHand anchor old (header.parent b.block) → ⊥)
      → new ≡ old → Takes header anchor b batch old new Missed

-- an entry of the block's digest is of another parent or round
abbrev pub ChangesPending : {B U : Type 0}
    → Header B
    → Named B
    → List (Cached U)
    → (before after : ExecutionStep)
    → Type 0
ChangesPending header b cache before after =
    Any (λ e. (e.digest ≡ b.digest) × (step_in e ≡ before)) cache
    × (after ≡ step_by header b)
    × (before ≢ after)

-- why the cache doesn't take a block
abbrev pub FaultsTake : {B U : Type 0} → Header B → Named B → List (Cached U) → ExecError → Type 0
FaultsTake header b cache OutOfMemory = Unit {0}
FaultsTake header b cache (PendingChanged before after) = ChangesPending header b cache before after
FaultsTake header b cache e = ⊥

-- Why the cache doesn't keep a block that was built: an entry of its digest is of another parent or
-- round; or it is missed, as one that isn't later than the anchor is.
abbrev pub FaultsKeep : {B U : Type 0}
    → Header B
    → Anchor
    → Named B
    → U
    → List (Cached U)
    → ExecError
    → Type 0
FaultsKeep header anchor b batch cache OutOfMemory = Unit {0}
FaultsKeep header anchor b batch cache (PendingChanged before after) =
    ChangesPending header b cache before after
FaultsKeep header anchor b batch cache (ProposalStale at round) =
    (at ≡ anchor.round)
    × (round ≡ header.round b.block)
    × Takes header anchor b batch cache cache Missed
FaultsKeep header anchor b batch cache e = ⊥
