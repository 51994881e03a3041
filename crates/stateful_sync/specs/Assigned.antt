-- The generation that a database is assigned.
use Rattle.std.specs.Prelude.{◌≡◌, ℕ, ◌==◌, Bool, true, false, if◌then◌else◌, List, All}
use Rattle.std.specs.List.{Any}
use Rattle.stateful_sync.specs.declared.action.DbSyncState.{DbSyncState}
use Rattle.stateful_sync.specs.declared.action.DbSyncState.TheVariants.{Seeking, Reached}
use Rattle.stateful_sync.specs.declared.action.Standing.{Standing}
use Rattle.stateful_sync.specs.declared.action.Standing.TheVariants.{Together, Apart, OnTheWay}

abbrev pub generation_of : DbSyncState → ℕ
generation_of (Seeking g) = g
generation_of (Reached g) = g

abbrev pub is_reached : DbSyncState → Bool
is_reached (Seeking g) = false
is_reached (Reached g) = true

-- a generation is said to be reached, which counts where it is the one that is assigned
abbrev pub once_reached : ℕ → DbSyncState → DbSyncState
once_reached g d = if generation_of d == g then Reached g else d

-- the target of the generation is the one that was reached, which counts where one was
abbrev pub once_marked : ℕ → DbSyncState → DbSyncState
once_marked g (Seeking h) = Seeking h
once_marked g (Reached h) = Reached g

-- the generation is sought where none is reached
abbrev pub unless_reached : ℕ → DbSyncState → DbSyncState
unless_reached g (Seeking h) = Seeking g
unless_reached g (Reached h) = Reached h

-- the generation is sought where another is assigned
abbrev pub unless_assigned : ℕ → DbSyncState → DbSyncState
unless_assigned g d = if generation_of d == g then d else Seeking g

-- where the databases stand, of which this is the greatest generation
abbrev pub StandAs : List DbSyncState → ℕ → Standing → Type 0
StandAs databases g Together = All (λ d. d ≡ Reached g) databases
StandAs databases g Apart = All (λ d. is_reached d ≡ true) databases
    × (All (λ d. generation_of d ≡ g) databases → ⊥)
StandAs databases g OnTheWay = Any (λ d. is_reached d ≡ false) databases
