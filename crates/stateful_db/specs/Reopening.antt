-- How a database opens on its medium, and why it doesn't.
use Rattle.std.specs.Prelude.{◌≡◌, ◌≢◌, ℕ, ◌+◌, ◌≤◌, ◌==◌, ◌⊎◌, length, [], Option, Some, None}
use Rattle.std.specs.Prelude.{position, slice_get, unwrap_or}
use Rattle.stateful_base.specs.declared.target.Target.{Target}
use Rattle.stateful_db.specs.Disk.{Disk, Standing, IsOpened, all, cut}
use Rattle.stateful_db.specs.declared.database.InitError.{InitError}
use Rattle.stateful_db.specs.declared.database.InitError.TheVariants as error

module _ {S T : Type 0} (target_of : S → T) (targeted : T → Target) where
  -- the number of the kept checkpoint whose range ends where this target's does
  abbrev pub with_end : T → Disk S → Option ℕ
  with_end t d = position (λ s. (targeted (target_of s)).end.0 == (targeted t).end.0) (all d)

  -- the kept checkpoint of this number
  abbrev pub Is_at : Disk S → ℕ → S → Type 0
  Is_at d n s = slice_get (all d) n ≡ Some s

  -- opened at the kept checkpoint of this number: nothing is applied on it yet, and no token is out
  pub record OpensAt (n : ℕ) (d : Disk S) (s : Standing S) : Type 0 where
    pub id : s.id ≡ 0
    pub out : s.out ≡ []
    pub disk : IsOpened n d s.disk

  -- opened at the checkpoint of the expected target, or at the latest
  abbrev pub Reopens : Option T → Disk S → Standing S → Type 0
  Reopens None d s = OpensAt (length d.older) d s
  Reopens (Some t) d s =
      (n : ℕ) × (with_end t d ≡ Some n) × (target_of s.disk.newest ≡ t) × OpensAt n d s

  -- no kept checkpoint has the expected end
  abbrev pub HasNone : Option T → Disk S → Type 0
  HasNone None d = ⊥
  HasNone (Some t) d = with_end t d ≡ None

  -- the checkpoint of the expected end has another target
  abbrev pub Differs : Option T → Disk S → Target → Target → Type 0
  Differs None d expected recovered = ⊥
  Differs (Some t) d expected recovered =
      (n : ℕ)
      × (s : S)
      × (with_end t d ≡ Some n)
      × Is_at d n s
      × (target_of s ≢ t)
      × (expected ≡ targeted t)
      × (recovered ≡ targeted (target_of s))

  -- why it didn't open
  abbrev pub FailsToReopen : Option T → Disk S → Type 0 → InitError → Type 0
  FailsToReopen expected d rose error.Database = rose ⊎ HasNone expected d
  FailsToReopen expected d rose (error.TargetMismatch given recovered) =
      Differs expected d given recovered
  FailsToReopen expected d rose error.OutOfMemory = Unit {0}

  -- the checkpoints speak against an opening, for this reason
  abbrev pub Refuses : Option T → Disk S → InitError → Type 0
  Refuses expected d error.Database = HasNone expected d
  Refuses expected d (error.TargetMismatch given recovered) = Differs expected d given recovered
  Refuses expected d error.OutOfMemory = ⊥

  -- a kept durable checkpoint has this target
  pub record KeepsDurable (t : T) (d : Disk S) : Type 0 where
    pub number : ℕ
    pub state : S
    pub found : with_end t d ≡ Some number
    pub is : Is_at d number state
    pub target : target_of state ≡ t
    pub durable : d.pruned + number ≤ d.durable

  -- without the checkpoints that are older than the one of this target
  abbrev pub pruned_to : T → Disk S → Disk S
  pruned_to t d = cut d (unwrap_or (with_end t d) 0)

-- a database that doesn't open for this reason, which may be that its count rose, is lost: it
-- failed, or wanted memory
abbrev pub Loses : InitError → Type 0 → Type 0
Loses error.Database rose = rose
Loses (error.TargetMismatch given recovered) rose = ⊥
Loses error.OutOfMemory rose = Unit {0}
