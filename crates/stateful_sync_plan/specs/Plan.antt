-- What a plan is, and what its calls make of it.
use Rattle.std.specs.Prelude.{◌≡◌, ℕ, ◌<◌, ◌≤◌, Option, Some, None, List, Result, Ok, Err, IfSome}
use Rattle.stateful_base.specs.Format.{Format}
use Rattle.stateful_base.specs.Round.{IsLater}
use Rattle.stateful_base.specs.declared.codec.CodecError.TheVariants as codec
use Rattle.stateful_base.specs.declared.finalization.Finalization.{Finalization}
use Rattle.stateful_base.specs.declared.number.Height.{Height}
use Rattle.stateful_base.specs.declared.digest.Digest.{Digest}
use Rattle.stateful_sync_plan.specs.State.{state_format}
use Rattle.stateful_sync_plan.specs.Worth.{IsWorth}
use Rattle.stateful_sync_plan.specs.declared.state.SyncState.{SyncState}
use Rattle.stateful_sync_plan.specs.declared.state.SyncState.TheVariants.{InProgress, Complete}
use Rattle.stateful_sync_plan.specs.declared.error.PlanError.{PlanError}
use Rattle.stateful_sync_plan.specs.declared.error.PlanError.TheVariants.{InvalidEnum, EndOfBuffer}
use Rattle.stateful_sync_plan.specs.declared.error.PlanError.TheVariants.{PlanStore, CompletedBackward}
use Rattle.stateful_sync_plan.specs.declared.error.PlanError.TheVariants.{CompletedConflict, OutOfMemory}

-- a store, and what was accepted last, if anything ever was
pub record Planned (P S K C : Type 0) : Type 0 where
  pub store : P
  pub state : Option (SyncState S K C)

module _ {S K C : Type 0} where
  -- the floor to which a sync is in progress
  abbrev pub floor_of : Option (SyncState S K C) → Option (Finalization C)
  floor_of None = None
  floor_of (Some (InProgress f)) = Some f
  floor_of (Some (Complete height digest)) = None

  -- the height of the completion
  abbrev pub completion_of : Option (SyncState S K C) → Option Height
  completion_of None = None
  completion_of (Some (InProgress f)) = None
  completion_of (Some (Complete height digest)) = Some height

  -- the digest that was recorded with it
  abbrev pub digest_of : Option (SyncState S K C) → Option Digest
  digest_of None = None
  digest_of (Some (InProgress f)) = None
  digest_of (Some (Complete height digest)) = digest

  -- a floor that is new: there is no completion, and its round is later than that of the floor that
  -- is there, if there is one
  pub record IsNew (state : Option (SyncState S K C)) (f : Finalization C) : Type 0 where
    pub may_sync : completion_of state ≡ None
    pub later : (floor : Finalization C) → floor_of state ≡ Some floor → IsLater floor.round f.round

  -- a floor that changes nothing: there is a completion, or its round isn't later than that of the
  -- floor that is there
  pub data IsIgnored (state : Option (SyncState S K C)) (f : Finalization C) : Type 0 where
    completed : (height : Height) → completion_of state ≡ Some height → IsIgnored state f
    not_later : (floor : Finalization C)
        → floor_of state ≡ Some floor
        → (IsLater floor.round f.round → ⊥)
        → IsIgnored state f

  -- a floor is taken where it is new, and else ignored
  pub data TakesFloor (old : Option (SyncState S K C)) (f : Finalization C)
      (new : Option (SyncState S K C)) : Type 0 where
    taken : IsNew old f → new ≡ Some (InProgress f) → TakesFloor old f new
    ignored : IsIgnored old f → new ≡ old → TakesFloor old f new

  -- A completion may be recorded: its height isn't below the recorded one, and at that height no
  -- other digest is recorded.
  pub record MayComplete (state : Option (SyncState S K C)) (height : Height)
      (digest : Digest) : Type 0 where
    pub above : (recorded : Height) → completion_of state ≡ Some recorded → recorded.0 ≤ height.0
    pub same : (recorded : Digest)
        → state ≡ Some (Complete height (Some recorded))
        → recorded ≡ digest

  -- a completion is recorded that may be
  pub record Completes (old : Option (SyncState S K C)) (height : Height) (digest : Digest)
      (new : Option (SyncState S K C)) : Type 0 where
    pub may : MayComplete old height digest
    pub recorded : new ≡ Some (Complete height (Some digest))

  -- a completion below the recorded height
  pub record IsBackward (state : Option (SyncState S K C)) (recorded given : Height) : Type 0 where
    pub recorded_is : completion_of state ≡ Some recorded
    pub below : given.0 < recorded.0

  -- a completion at the recorded height, with which another digest was recorded
  pub record IsConflict (state : Option (SyncState S K C)) (height : Height)
      (recorded given : Digest) : Type 0 where
    pub recorded_is : state ≡ Some (Complete height (Some recorded))
    pub differs : recorded ≡ given → ⊥

  -- what the store holds is worth this, where it is told what it holds
  abbrev pub IsKept : Format C → Option (Option (List ℕ)) → Option (SyncState S K C) → Type 0
  IsKept certificate stored state =
      IfSome stored (λ value. IsWorth (state_format certificate) value (Ok state))

  -- A plan was loaded: its state is what the stored value is worth. Or it wasn't, by the fault of
  -- the stored bytes. Or the store failed, or memory ran out.
  abbrev pub IsLoaded : {P : Type 0}
      → Format C
      → Option (List ℕ)
      → Result (Planned P S K C) PlanError
      → Type 0
  IsLoaded certificate value (Ok plan) = IsWorth (state_format certificate) value (Ok plan.state)
  IsLoaded certificate value (Err (InvalidEnum byte)) =
      IsWorth (state_format {S = S} {K = K} certificate) value (Err (codec.InvalidEnum byte))
  IsLoaded certificate value (Err EndOfBuffer) =
      IsWorth (state_format {S = S} {K = K} certificate) value (Err codec.EndOfBuffer)
  IsLoaded certificate value (Err PlanStore) = Unit {0}
  IsLoaded certificate value (Err OutOfMemory) = Unit {0}
  IsLoaded certificate value (Err (CompletedBackward recorded given)) = ⊥
  IsLoaded certificate value (Err (CompletedConflict height recorded given)) = ⊥

-- it speaks of the stored bytes
abbrev pub IsOfBytes : PlanError → Type 0
IsOfBytes (InvalidEnum byte) = Unit {0}
IsOfBytes EndOfBuffer = Unit {0}
IsOfBytes error = ⊥

-- it refuses a completion
abbrev pub IsOfCompletion : PlanError → Type 0
IsOfCompletion (CompletedBackward recorded given) = Unit {0}
IsOfCompletion (CompletedConflict height recorded given) = Unit {0}
IsOfCompletion error = ⊥
