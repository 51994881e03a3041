-- What a medium keeps, and what a database adds to it.
use Rattle.std.specs.Prelude.{◌≡◌, ℕ, ◌+◌, ◌-◌, ◌<◌, ◌≤◌, List, [], ◌∷◌, ◌++◌, ◌⊎◌, length, take}
use Rattle.std.specs.Prelude.{drop, min, max, slice_get, Some}
use Rattle.stateful_base.specs.declared.target.Target.{Target}

-- The kept checkpoints, oldest first, with the place of the last durable one. Places count the
-- pruned ones too.
pub record Disk (S : Type 0) : Type 0 where
  pub older : List S
  pub newest : S
  pub pruned : ℕ
  pub durable : ℕ

module _ {S : Type 0} where
  -- all kept checkpoints
  abbrev pub all : Disk S → List S
  all d = d.older ++ d.newest ∷ []

  -- the place of the newest
  abbrev pub place : Disk S → ℕ
  place d = d.pruned + length d.older

  -- the checkpoint at this place is kept, and is this state
  abbrev pub HasAt : Disk S → ℕ → S → Type 0
  HasAt d k s = (d.pruned ≤ k) × (slice_get (all d) (k - d.pruned) ≡ Some s)

  -- one checkpoint more
  abbrev pub applied : Disk S → S → Disk S
  applied d s = record d { older = all d; newest = s }

  -- durable up to this place, or further where it was
  abbrev pub flushed : Disk S → ℕ → Disk S
  flushed d at = record d { durable = max at d.durable }

  -- without so many of the oldest checkpoints
  abbrev pub cut : Disk S → ℕ → Disk S
  cut d n = record d { older = drop n d.older; pruned = d.pruned + n }

  -- a prefix that contains the durable one
  pub record IsCrash (keep : ℕ) (d e : Disk S) : Type 0 where
    pub prefix : all e
        ≡ take (max (d.durable + 1 - d.pruned) (min (keep - d.pruned) (length (all d)))) (all d)
    pub pruned : e.pruned ≡ d.pruned
    pub durable : e.durable ≡ d.durable

  -- opened at the kept checkpoint of this number, which is then the last and the durable one
  pub record IsOpened (n : ℕ) (d e : Disk S) : Type 0 where
    pub kept : all e ≡ take (n + 1) (all d)
    pub pruned : e.pruned ≡ d.pruned
    pub durable : e.durable ≡ place e

  -- what was there before the call, or what the call would have left
  abbrev pub IsEither : Disk S → Disk S → Disk S → Type 0
  IsEither old new d = (d ≡ old) ⊎ (d ≡ new)

-- The durable checkpoint is kept and no newer than the newest one. The range of each checkpoint
-- ends behind that of every earlier one, and doesn't start before it.
pub record IsSound {S : Type 0} (range_of : S → Target) (d : Disk S) : Type 0 where
  pub kept : d.pruned ≤ d.durable
  pub within : d.durable ≤ place d
  pub ends : (i j : ℕ) (s t : S)
      → i < j
      → slice_get (all d) i ≡ Some s
      → slice_get (all d) j ≡ Some t
      → (range_of s).end.0 < (range_of t).end.0
  pub starts : (i j : ℕ) (s t : S)
      → i < j
      → slice_get (all d) i ≡ Some s
      → slice_get (all d) j ≡ Some t
      → (range_of s).start.0 ≤ (range_of t).start.0

-- an open database: the id of the last applied batch (0 after opening), its disk, and the places of
-- the tokens that are out, the oldest first
pub record Standing (S : Type 0) : Type 0 where
  pub id : ℕ
  pub disk : Disk S
  pub out : List ℕ

module _ {S : Type 0} where
  -- the id of the last applied batch, and the state
  abbrev pub point : Standing S → ℕ × S
  point s = (s.id, s.disk.newest)
