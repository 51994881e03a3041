-- At which block databases are opened, and what becomes of them.
use Rattle.std.specs.Prelude.{◌≡◌, ℕ, ◌<◌, ◌^◌, ◌⊎◌, max, Option, Some, None, Result, Ok, Err}
use Rattle.stateful_base.specs.Names.{Header, Named}
use Rattle.stateful_base.specs.Causes.{Rose}
use Rattle.stateful_base.specs.Anchor.{anchor_by}
use Rattle.stateful_base.specs.declared.anchor.Anchor.{Anchor}
use Rattle.stateful_base.specs.declared.digest.Digest.{Digest}
use Rattle.stateful_base.specs.declared.number.Height.{Height}
use Rattle.stateful_db.specs.Databases.{Databases}
use Rattle.stateful_db.specs.declared.database.InitError.{InitError}
use Rattle.stateful_db.specs.declared.database.InitError.TheVariants as init
use Rattle.stateful_sync_plan.specs.Errors.{of_opening}
use Rattle.stateful_sync_plan.specs.declared.error.Missing.TheVariants.{AtHeight}
use Rattle.stateful_sync_plan.specs.declared.error.SyncError.{SyncError}
use Rattle.stateful_sync_plan.specs.declared.error.SyncError.TheVariants.{MissingBlock}
use Rattle.stateful_sync_plan.specs.declared.error.SyncError.TheVariants.{CompletedConflict, OutOfMemory}

-- the height, or 0 where there is none
abbrev pub height_or_first : Option Height → ℕ
height_or_first None = 0
height_or_first (Some height) = height.0

-- the height of a completion, or 0 where there is none
abbrev pub completion_or_first : Option (Height × Option Digest) → ℕ
completion_or_first None = 0
completion_or_first (Some completion) = completion.0.0

-- the later of what was processed and of the completion, or 0
abbrev pub opening_height : Option Height → Option (Height × Option Digest) → ℕ
opening_height processed completed = max (height_or_first processed) (completion_or_first completed)

-- the completion is at this height, with a recorded digest that isn't this one
pub record IsContradicted (completed : Option (Height × Option Digest)) (height : ℕ)
    (recorded given : Digest) : Type 0 where
  pub completion_is : completed ≡ Some (record { 0 = height }, Some recorded)
  pub differs : recorded ≡ given → ⊥

-- the block of this digest may be opened, unless it is contradicted
pub data IsChecked (completed : Option (Height × Option Digest)) (height : ℕ) (digest : Digest)
    (answer : Result (Unit {0}) SyncError) : Type 0 where
  agrees : ((recorded : Digest) → IsContradicted completed height recorded digest → ⊥)
      → answer ≡ Ok tt
      → IsChecked completed height digest answer
  differs : (recorded : Digest)
      → IsContradicted completed height recorded digest
      → answer ≡ Err (CompletedConflict (record { 0 = height }) recorded digest)
      → IsChecked completed height digest answer

-- Why the database of this number didn't open: memory ran out, its count rose from this to that, or
-- its checkpoints speak against it.
abbrev pub IsRefused : {Ids States Targets : Type 0} (kind : Databases Ids States Targets)
    → Option Targets
    → (before now : ℕ)
    → kind.Members
    → ℕ
    → InitError
    → Type 0
IsRefused kind expected before now members index why =
    (why ≡ init.OutOfMemory)
    ⊎ (((why ≡ init.Database) × Rose before now) ⊎ kind.Refuses members expected index why)

module _ {Ids States Targets B : Type 0} (kind : Databases Ids States Targets) (header : Header B)
    (targets_of : B → Targets) (stored : ℕ → Option (Named B)) where
  -- the store has this block at the height that is to be opened, and no recorded digest speaks
  -- against it
  pub record IsToOpen (height : ℕ) (completed : Option (Height × Option Digest))
      (block : Named B) : Type 0 where
    pub stored_is : stored height ≡ Some block
    pub agrees : (recorded : Digest) → IsContradicted completed height recorded block.digest → ⊥

  -- What an opening at a height answers, and what it makes of the databases, whose counts of faults
  -- were these and are those. The block is missing, or it isn't the recorded one; then the
  -- databases are as before. Or one of them doesn't open at the block's targets. Or all are open
  -- there, and the anchor is the block's.
  pub data Opens (height : ℕ) (completed : Option (Height × Option Digest))
      (counted now_counted : ℕ → ℕ) (old new : kind.Members)
      (answer : Result Anchor SyncError) : Type 0 where
    missing : stored height ≡ None
        → new ≡ old
        → answer ≡ Err (MissingBlock (AtHeight (record { 0 = height })))
        → Opens height completed counted now_counted old new answer
    contradicted : (block : Named B) (recorded : Digest)
        → stored height ≡ Some block
        → IsContradicted completed height recorded block.digest
        → new ≡ old
        → answer ≡ Err (CompletedConflict (record { 0 = height }) recorded block.digest)
        → Opens height completed counted now_counted old new answer
    not_opened : (block : Named B) (index : ℕ) (why : InitError)
        → IsToOpen height completed block
        → index < kind.count
        → (kind.count < 2 ^ 64
        → kind.NotOpened old (Some (targets_of block.block)) index (counted index)
        (now_counted index) why new)
        → answer ≡ Err (of_opening index why)
        → Opens height completed counted now_counted old new answer
    opened : (block : Named B)
        → IsToOpen height completed block
        → kind.Reopened old (Some (targets_of block.block)) new
        → answer ≡ Ok (anchor_by header block)
        → Opens height completed counted now_counted old new answer
    without_memory : new ≡ old
        → answer ≡ Err OutOfMemory
        → Opens height completed counted now_counted old new answer
