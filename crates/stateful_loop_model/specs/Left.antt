-- What a fault leaves of the databases.
use Rattle.std.specs.Prelude.{◌≡◌, ◌<◌, ◌^◌, ◌∷◌, ◌⊎◌, ℕ, Option, Some, List}
use Rattle.stateful_base.specs.Names.{Named}
use Rattle.stateful_base.specs.declared.floor.Floor.{Floor}
use Rattle.stateful_db.specs.Databases.{Preserves}
use Rattle.stateful_db.specs.declared.database.InitError.{InitError}
use Rattle.stateful_history.specs.Restarts.{reopened_height}
use Rattle.stateful_exec_model.specs.Finalizing.{Moves}
use Rattle.stateful_exec_model.specs.Workings.{Workings, Point}
use Rattle.stateful_exec_model.specs.declared.front.Front.{Front}
use Rattle.stateful_exec_tables.specs.declared.state.Tables.{Tables}
use Rattle.stateful_loop_model.specs.Moments.{Executing, Moment}
use Rattle.stateful_loop_model.specs.Rules.{IsFinalizing, HasStates}
use Rattle.stateful_loop_model.specs.declared.tables.Finalizing.{Finalizing}

module _ {B C I P R D H G U : Type 0} (w : Workings B C I P R D H G U) where
  -- Each database that is here has its part of whatever states it had; and, of fewer than 2^64,
  -- each keeps the checkpoints that it kept, and what was durable is.
  pub record KeepsStates (old new : w.kind.Members) : Type 0 where
    pub states : (i : ℕ) (s : w.States) → w.kind.HasState old i s → w.kind.HasState new i s
    pub preserves : w.kind.count < 2 ^ 64 → Preserves w.kind old new

  -- The batch of a finalized block was being applied: each database that is here has its part of
  -- the states before, or of those that the batch shows; and each keeps the checkpoints that it
  -- kept.
  pub record LeavesApply (b : Named B) (e : Executing B C I R D H U) (old new : w.kind.Members)
      : Type 0 where
    pub batch : U
    pub captured : G
    pub state : Tables B C I R U
    pub front : Option (Front B R U H)
    pub moves : Moves w b old e.state state e.front front batch captured
    pub states : (p q : Point w) (c : List (Point w))
        → w.kind.point old ≡ Some p
        → w.shows batch (q ∷ p ∷ c)
        → (i : ℕ)
        → w.kind.HasState new i p.1 ⊎ w.kind.HasState new i q.1
    pub preserves : (p q : Point w) (c : List (Point w))
        → w.kind.point old ≡ Some p
        → w.shows batch (q ∷ p ∷ c)
        → w.kind.count < 2 ^ 64
        → Preserves w.kind old new

  -- Behind a rule that could go and didn't, each database that is here has its part of whatever
  -- states it had; or it was the rule by which the block in front is applied.
  pub data LeavesRule (m : Moment w) (new : w.kind.Members) : Type 0 where
    keeps : KeepsStates m.members new → LeavesRule m new
    applying : {f : Finalizing B G} → IsFinalizing w m f → HasStates w m f.block
        → LeavesApply f.block m.execution m.members new → LeavesRule m new

module _ {B C I P R D H G U : Type 0} (w : Workings B C I P R D H G U)
    (stored : ℕ → Option (Named B)) (floor : Floor) (keep : List ℕ) (old : w.kind.Members) where
  -- a crash left these databases, and the store has this block at the height that is to be opened
  pub record IsTried (crashed : w.kind.Members) (block : Named B) : Type 0 where
    pub is_crashed : w.kind.Crashed old keep crashed
    pub is_stored : stored (reopened_height floor) ≡ Some block

  -- What an opening that failed leaves: each database is closed as the crash left it; or one of
  -- them doesn't open at what the store's block commits to; or all are open there, and memory ran
  -- out.
  pub data LeavesOpening (new : w.kind.Members) : Type 0 where
    closed : w.kind.Crashed old keep new → LeavesOpening new
    not_opened : {crashed : w.kind.Members} {block : Named B} {i before now : ℕ} {why : InitError}
        → IsTried crashed block
        → (w.kind.count < 2 ^ 64
        → w.kind.NotOpened crashed (Some (w.works.meaning.targets block.block)) i before now why
        new)
        → LeavesOpening new
    opened : {crashed : w.kind.Members} {block : Named B}
        → IsTried crashed block
        → w.kind.Reopened crashed (Some (w.works.meaning.targets block.block)) new
        → LeavesOpening new
