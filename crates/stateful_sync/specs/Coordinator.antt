-- How a coordinator brings several databases to the targets of one block.
use Rattle.std.specs.Prelude.{◌≡◌, ◌⊎◌, ℕ, ◌+◌, ◌<◌, ◌≤◌, true, false, Option, Some, None}
use Rattle.std.specs.Prelude.{unwrap_or, List, map, slice_get, slice_set, All}
use Rattle.std.specs.List.{Any}
use Rattle.stateful_base.specs.declared.anchor.Anchor.{Anchor}
use Rattle.stateful_sync.specs.Assigned.{generation_of, is_reached, once_reached, once_marked}
use Rattle.stateful_sync.specs.Assigned.{unless_reached, unless_assigned}
use Rattle.stateful_sync.specs.declared.tip.Tip.{Tip}
use Rattle.stateful_sync.specs.declared.action.DbSyncState.{DbSyncState}
use Rattle.stateful_sync.specs.declared.action.DbSyncState.TheVariants.{Seeking, Reached}
use Rattle.stateful_sync.specs.declared.action.Generation.{Generation}
use Rattle.stateful_sync.specs.declared.action.CoordinatorAction.{CoordinatorAction}
use Rattle.stateful_sync.specs.declared.action.CoordinatorAction.TheVariants.{Wait, Dispatch}
use Rattle.stateful_sync.specs.declared.action.CoordinatorAction.TheVariants.{Converged}

-- what each database is assigned, by their numbers; the generation that was dispatched last; and
-- the recorded tip that is to be dispatched next, if there is one
pub record Coordination (T : Type 0) : Type 0 where
  pub databases : List DbSyncState
  pub newest : Generation T
  pub pending : Option (Tip T)

-- a call of a coordinator that may change it
pub data Call (T : Type 0) : Type 0 where
  record_reached : ℕ → ℕ → Call T
  record_tip_update : Anchor → T → Call T
  next_action : Call T
  mark_reached_same_target : ℕ → ℕ → Call T

module _ {T : Type 0} where
  abbrev pub height_of : Tip T → ℕ
  height_of tip = tip.anchor.height.0

  abbrev pub tip_of : Anchor → T → Tip T
  tip_of anchor targets = record { anchor = anchor; targets = targets }

  -- the generation behind this one, which goes to a tip
  abbrev pub next_generation : Generation T → Tip T → Generation T
  next_generation newest tip = record { number = newest.number + 1; tip = tip }

  -- the tip that is dispatched next, or else the one that was dispatched last
  abbrev pub latest : Coordination T → Tip T
  latest s = unwrap_or s.pending s.newest.tip

  -- every database has reached this generation
  abbrev pub AllReached : Coordination T → ℕ → Type 0
  AllReached s g = All (λ d. d ≡ Reached g) s.databases

  -- the database of this number is seeking a generation
  abbrev pub Seeks : Coordination T → ℕ → Type 0
  Seeks s index = (g : ℕ) × (slice_get s.databases index ≡ Some (Seeking g))

  -- the newest generation is the greatest that a database is assigned, and the tip that is to be
  -- dispatched next is higher
  pub record IsInOrder (s : Coordination T) : Type 0 where
    pub greatest : Any (λ d. generation_of d ≡ s.newest.number) s.databases
    pub bounds : All (λ d. generation_of d ≤ s.newest.number) s.databases
    pub higher : (tip : Tip T) → s.pending ≡ Some tip → height_of s.newest.tip < height_of tip

  -- the database of this number changes so, and nothing else does
  pub record ChangesAt (s : Coordination T) (index : ℕ) (change : DbSyncState → DbSyncState)
      (next : Coordination T) : Type 0 where
    pub before : DbSyncState
    pub was : slice_get s.databases index ≡ Some before
    pub is : next ≡ record s { databases = slice_set s.databases index (change before) }

  -- a tip is dispatched next where it is above the tip that would be, or the last one that was;
  -- else it is ignored
  pub data TakesTip (s : Coordination T) (tip : Tip T) : Coordination T → Type 0 where
    takes : height_of (latest s) < height_of tip → TakesTip s tip (record s { pending = Some tip })
    ignores : height_of tip ≤ height_of (latest s) → TakesTip s tip s

  -- the generation is dispatched
  abbrev pub dispatch : Generation T → CoordinatorAction T
  dispatch g = Dispatch g.number g.tip.anchor g.tip.targets

  -- it is what the databases have converged to
  abbrev pub converge : Generation T → CoordinatorAction T
  converge g = Converged g.tip.anchor g.tip.targets

  -- what is to be done next, and what is assigned then
  pub data Acts (s : Coordination T) : CoordinatorAction T → Coordination T → Type 0 where
    -- all databases have reached one generation, and a tip is pending: it goes to all, as a new
    -- generation
    goes_to_all : {g : ℕ} {tip : Tip T}
        → AllReached s g
        → s.pending ≡ Some tip
        → Acts s (dispatch (next_generation s.newest tip)) (record {
          databases = map (λ d. Seeking (s.newest.number + 1)) s.databases;
          newest = next_generation s.newest tip;
          pending = None;
        })
    -- all have reached one generation, and no tip is pending: that is what they have converged to
    converges : {g : ℕ}
        → AllReached s g
        → s.pending ≡ None
        → Acts s (converge s.newest) s
    -- all have reached a generation, but not one and the same: the greatest goes again to those of
    -- lower ones
    regroups : All (λ d. is_reached d ≡ true) s.databases
        → ((g : ℕ) → AllReached s g → ⊥)
        → Acts s (dispatch s.newest)
        (record s { databases = map (unless_assigned s.newest.number) s.databases })
    -- a database is seeking, and a tip is pending: it goes, as a new generation, to those that are
    -- seeking
    goes_to_seeking : {tip : Tip T}
        → Any (λ d. is_reached d ≡ false) s.databases
        → s.pending ≡ Some tip
        → Acts s (dispatch (next_generation s.newest tip)) (record {
          databases = map (unless_reached (s.newest.number + 1)) s.databases;
          newest = next_generation s.newest tip;
          pending = None;
        })
    -- a database is seeking, and no tip is pending
    waits : Any (λ d. is_reached d ≡ false) s.databases
        → s.pending ≡ None
        → Acts s Wait s

  -- what is dispatched is the newest generation
  abbrev pub IsNewest : CoordinatorAction T → Coordination T → Type 0
  IsNewest (Dispatch number anchor targets) s = number ≡ s.newest.number
  IsNewest action s = Unit {0}

  -- a tip is to go out as a new generation: it is pending, and all databases have reached one
  -- generation, or one is seeking
  pub record NeedsNumber (s : Coordination T) : Type 0 where
    pub tip : Tip T
    pub pending : s.pending ≡ Some tip
    pub case : ((g : ℕ) × AllReached s g) ⊎ Any (λ d. is_reached d ≡ false) s.databases

  -- a call that keeps its conditions, with its answer and the state behind it
  pub data Steps (s : Coordination T) : Call T
      → Option (CoordinatorAction T)
      → Coordination T
      → Type 0 where
    reached : {index g : ℕ} {next : Coordination T}
        → ChangesAt s index (once_reached g) next
        → Steps s (record_reached index g) None next
    tipped : {anchor : Anchor} {targets : T} {next : Coordination T}
        → TakesTip s (tip_of anchor targets) next
        → Steps s (record_tip_update anchor targets) None next
    acted : {action : CoordinatorAction T} {next : Coordination T}
        → Acts s action next
        → Steps s next_action (Some action) next
    marked : {index g : ℕ} {next : Coordination T}
        → g ≡ s.newest.number
        → ChangesAt s index (once_marked g) next
        → Steps s (mark_reached_same_target index g) None next
