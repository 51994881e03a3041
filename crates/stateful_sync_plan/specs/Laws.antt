-- What holds of a plan over all calls.
use Rattle.std.specs.Prelude.{◌≡◌, ◌≤◌, ◌⊎◌, Option, Some, IsSome}
use Rattle.stateful_base.specs.Round.{IsLater}
use Rattle.stateful_base.specs.declared.finalization.Finalization.{Finalization}
use Rattle.stateful_base.specs.declared.number.Height.{Height}
use Rattle.stateful_base.specs.declared.digest.Digest.{Digest}
use Rattle.stateful_sync_plan.specs.Plan.{floor_of, completion_of, digest_of, TakesFloor, Completes}
use Rattle.stateful_sync_plan.specs.declared.state.SyncState.{SyncState}

module _ {S K C : Type 0} where
  -- One call: a floor is taken or ignored, a completion is recorded, or nothing changes. The last
  -- is so of a call that is refused, of one that only reads, and where the store is loaded again.
  pub data Call (old new : Option (SyncState S K C)) : Type 0 where
    takes_floor : (f : Finalization C) → TakesFloor old f new → Call old new
    completes : (height : Height) (digest : Digest) → Completes old height digest new → Call old new
    changes_nothing : new ≡ old → Call old new

  -- calls, one after another
  pub data Calls : Option (SyncState S K C) → Option (SyncState S K C) → Type 0 where
    none : {state : Option (SyncState S K C)} → Calls state state
    further : {old mid new : Option (SyncState S K C)}
        → Call old mid
        → Calls mid new
        → Calls old new

  -- What was accepted later is ahead. A recorded height never falls, and a digest that was recorded
  -- with it stays as long as the height does. A floor stays, or a floor of a later round comes in
  -- its place, until there is a completion.
  pub record IsAhead (old new : Option (SyncState S K C)) : Type 0 where
    pub height : (before : Height) → completion_of old ≡ Some before
        → (now : Height) × (completion_of new ≡ Some now) × (before.0 ≤ now.0)
    pub digest : (recorded : Digest)
        → digest_of old ≡ Some recorded
        → completion_of new ≡ completion_of old
        → digest_of new ≡ Some recorded
    pub floor : (before : Finalization C) → floor_of old ≡ Some before
        → IsSome (completion_of new)
        ⊎ ((now : Finalization C)
        × (floor_of new ≡ Some now)
        × ((now ≡ before) ⊎ IsLater before.round now.round))

  -- whatever calls follow, each leaves a state that is ahead of all earlier ones
  abbrev pub NeverFallsBack : Option (SyncState S K C) → Type 0
  NeverFallsBack first =
      (earlier later : Option (SyncState S K C))
      → Calls first earlier
      → Calls earlier later
      → IsAhead earlier later
