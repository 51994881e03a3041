-- How the databases are opened behind a crash, and why they aren't.
use Rattle.std.specs.Prelude.{◌≡◌, ◌<◌, ◌++◌, ◌∷◌, ◌^◌, [], ℕ, true, Option, Some, None, List}
use Rattle.stateful_base.specs.Names.{Named}
use Rattle.stateful_base.specs.Anchor.{anchor_by}
use Rattle.stateful_base.specs.declared.floor.Floor.{Floor}
use Rattle.stateful_db.specs.Databases.{IsOpening}
use Rattle.stateful_db.specs.declared.database.InitError.{InitError}
use Rattle.stateful_db.specs.declared.database.InitError.TheVariants as init
use Rattle.stateful_history.specs.Restarts.{reopened_height}
use Rattle.stateful_history.specs.declared.mark.Mark.TheVariants as mark
use Rattle.stateful_exec_model.specs.Workings.{Workings}
use Rattle.stateful_exec_pause.specs.declared.pause.Pause.TheVariants.{Free}
use Rattle.stateful_loop_model.specs.Moments.{Moment}
use Rattle.stateful_loop_model.specs.declared.error.StepError.{StepError}
use Rattle.stateful_loop_model.specs.declared.error.StepError.TheVariants.{Database, TargetMismatch}
use Rattle.stateful_loop_model.specs.declared.error.StepError.TheVariants.{MissingBlock}
use Rattle.stateful_loop_model.specs.declared.error.StepError.TheVariants.{OutOfMemory}

module _ {B C I P R D H G U : Type 0} (w : Workings B C I P R D H G U)
    (stored : ℕ → Option (Named B)) (floor : Floor) (keep : List ℕ) where
  -- Each database is open, on what the crash left, at what the store's block of the processed
  -- height commits to. That block is the anchor, its height is durable, and nothing goes on above
  -- it.
  pub record Opens (m now : Moment w) : Type 0 where
    pub crashed : w.kind.Members
    pub is_crashed : w.kind.Crashed m.members keep crashed
    pub block : Named B
    pub is_stored : stored (reopened_height floor) ≡ Some block
    pub reopened : w.kind.Reopened crashed (Some (w.works.meaning.targets block.block)) now.members
    pub opening : IsOpening w.kind now.next now.members (w.works.meaning.targets block.block)
    pub next : now.next ≡ m.next
    pub anchor : now.execution.state.anchor ≡ anchor_by w.header block
    pub cache : now.execution.state.cache ≡ []
    pub runs : now.execution.state.runs ≡ []
    pub requests : (now.execution.state.requests ≡ [])
        × (now.execution.state.queued ≡ [])
        × (now.execution.state.recovered ≡ [])
    pub free : now.execution.state.pause ≡ Free
    pub nothing : (now.execution.build ≡ None) × (now.execution.front ≡ None)
    pub numbers : (now.execution.state.next_job ≡ m.execution.state.next_job)
        × (now.execution.state.next_fetch ≡ m.execution.state.next_fetch)
    pub loop : now.loop ≡ record m.loop {
      up = true;
      durability = record {
        durable = w.header.height block.block;
        applied = w.header.height block.block;
        barriers = [];
        held = [];
      };
    }
    pub marks : now.marks ≡ m.marks ++ mark.Opened (anchor_by w.header block) ∷ []

  module _ (before now : ℕ → ℕ) (old new : w.kind.Members) where
    -- behind the crash the database of this number doesn't open at what the store's block commits
    -- to, for this reason
    pub record FailsToOpen (i : ℕ) (why : InitError) : Type 0 where
      pub crashed : w.kind.Members
      pub is_crashed : w.kind.Crashed old keep crashed
      pub block : Named B
      pub is_stored : stored (reopened_height floor) ≡ Some block
      pub within : i < w.kind.count
      pub not_opened : w.kind.count < 2 ^ 64
          → w.kind.NotOpened crashed (Some (w.works.meaning.targets block.block)) i (before i)
          (now i) why new

    -- the store has no block at the height that is to be opened, and each database is closed as the
    -- crash left it; or a database doesn't open
    abbrev pub FaultsOpening : StepError → Type 0
    FaultsOpening OutOfMemory = Unit {0}
    FaultsOpening (MissingBlock height) =
        (height.0 ≡ reopened_height floor) × (stored height.0 ≡ None) × w.kind.Crashed old keep new
    FaultsOpening (Database i) = FailsToOpen i init.Database
    FaultsOpening (TargetMismatch i expected recovered) =
        FailsToOpen i (init.TargetMismatch expected recovered)
    FaultsOpening e = ⊥
