-- When a prune is due, and to which heights.
use Rattle.std.specs.Prelude.{◌≡◌, ℕ, ◌+◌, ◌-◌, ◌%◌, ◌≤◌, ◌↔◌, Option, IsSome, IfSome, List, ◌∷◌}
use Rattle.std.specs.Prelude.{◌++◌, length, take, drop, All}
use Rattle.stateful_pruning.specs.declared.pruning.Prune.{Prune}

-- a finalized height, the targets there, and the number of operations up to there
pub record Entry (T : Type 0) : Type 0 where
  pub height : ℕ
  pub targets : T
  pub operations : ℕ

-- the heights at which a prune may be due, the two windows, in blocks, and the number of operations
-- to retain
pub record Schedule : Type 0 where
  pub interval : ℕ
  pub offset : ℕ
  pub marshal_window : ℕ
  pub qmdb_window : ℕ
  pub retained_operations : ℕ

-- the last so many, all where there are fewer
abbrev pub window : {A : Type 0} → ℕ → List A → List A
window n xs = drop (length xs - n) xs

-- the fact holds of the first of these, if there is one
abbrev pub OnOldest : {A : Type 0} → (A → Type 0) → List A → Type 0
OnOldest P xs = All P (take 1 xs)

-- the fact holds of the last of these, if there is one
abbrev pub OnNewest : {A : Type 0} → (A → Type 0) → List A → Type 0
OnNewest P xs = All P (window 1 xs)

-- over all entries that were recorded, the oldest first
module _ {T : Type 0} (s : Schedule) (entries : List (Entry T)) where
  -- The databases may be pruned to this entry of the marshal window. It isn't newer than the oldest
  -- of the QMDB window: from it on there are as many entries as that window has. And it has at
  -- least the operations to retain fewer than the newest entry.
  pub record MayPruneTo (older : List (Entry T)) (entry : Entry T)
      (newer : List (Entry T)) : Type 0 where
    pub marshal : window s.marshal_window entries ≡ older ++ entry ∷ newer
    pub qmdb : s.qmdb_window ≤ length (entry ∷ newer)
    pub operations : OnNewest
        (λ newest. entry.operations + s.retained_operations ≤ newest.operations) entries

  -- there is an entry to which the databases may be pruned
  abbrev pub MayPrune : Type 0
  MayPrune =
      (older : List (Entry T))
      × (entry : Entry T)
      × (newer : List (Entry T))
      × MayPruneTo older entry newer

  -- the databases may be pruned to this entry, and to none that is newer
  pub record IsTarget (entry : Entry T) : Type 0 where
    pub older : List (Entry T)
    pub newer : List (Entry T)
    pub allowed : MayPruneTo older entry newer
    pub newest : (before : List (Entry T)) (other : Entry T) (behind : List (Entry T))
        → MayPruneTo before other behind
        → length newer ≤ length behind

  -- A prune is due: the newest height is congruent to the offset modulo the interval, the marshal
  -- window is full, and there is an entry to which the databases may be pruned.
  pub record IsDue : Type 0 where
    pub time : OnNewest (λ newest. newest.height % s.interval ≡ s.offset) entries
    pub full : length (window s.marshal_window entries) ≡ s.marshal_window
    pub target : MayPrune

  -- marshal is pruned to the oldest height of its window, and the databases to the newest entry to
  -- which they may be
  pub record IsPrune (prune : Prune T) : Type 0 where
    pub marshal : OnOldest (λ oldest. oldest.height ≡ prune.marshal_height.0)
        (window s.marshal_window entries)
    pub target : (operations : ℕ)
        × IsTarget
        (record {
          height =
              prune.barrier_height.0;
          targets = prune.qmdb_target;
          operations = operations;
        })

  -- the answer is a prune exactly where one is due, and is that one
  pub record IsAnswer (answer : Option (Prune T)) : Type 0 where
    pub due : IsSome answer ↔ IsDue
    pub prune : IfSome answer IsPrune

  -- the blocks of the marshal window, the checkpoints of the QMDB window and the target's block
  -- stay
  pub record KeepsWindows (prune : Prune T) : Type 0 where
    pub marshal : All (λ entry. prune.marshal_height.0 ≤ entry.height)
        (window s.marshal_window entries)
    pub qmdb : All (λ entry. prune.barrier_height.0 ≤ entry.height) (window s.qmdb_window entries)
    pub block : prune.marshal_height.0 ≤ prune.barrier_height.0
