-- A database of a set, wherever it is.
use Rattle.std.specs.Prelude.{◌≡◌, ℕ, ◌+◌, ◌-◌, ◌<◌, ◌⊎◌, List, [], ◌∷◌, ◌++◌, drop, length, Bool}
use Rattle.std.specs.Prelude.{true, Option, Some, None}
use Rattle.stateful_base.specs.Causes.{Rose}
use Rattle.stateful_base.specs.declared.target.Target.{Target}
use Rattle.stateful_db.specs.Disk.{Disk, Standing, HasAt, IsSound, IsEither, IsCrash, all, applied}
use Rattle.stateful_db.specs.Disk.{point, place, flushed}
use Rattle.stateful_db.specs.Tokens.{without}
use Rattle.stateful_db.specs.Reopening.{Reopens, HasNone, Differs, Refuses, KeepsDurable, pruned_to}
use Rattle.stateful_db.specs.declared.database.InitError.{InitError}
use Rattle.stateful_db.specs.declared.database.InitError.TheVariants as error

-- here, closed, lost with its medium, or away
pub data Member (S : Type 0) : Type 0 where
  here : Standing S → Member S
  closed : Disk S → Member S
  lost : Disk S → Member S
  away : Member S

module _ {S : Type 0} where
  -- the id of the last applied batch, and the state
  abbrev pub member_point : Member S → Option (ℕ × S)
  member_point (here s) = Some (point s)
  member_point _ = None

  -- its medium keeps a checkpoint at this place, which is this state
  abbrev pub MemberHasAt : Member S → ℕ → S → Type 0
  MemberHasAt (here s) k t = HasAt s.disk k t
  MemberHasAt (closed d) k t = HasAt d k t
  MemberHasAt (lost d) k t = HasAt d k t
  MemberHasAt away k t = ⊥

  -- its checkpoints from this place on are these states, less the pruned ones
  abbrev pub MemberKeeps : Member S → ℕ → List S → Type 0
  MemberKeeps (here s) origin states =
      drop (origin - s.disk.pruned) (all s.disk) ≡ drop (s.disk.pruned - origin) states
  MemberKeeps _ origin states = ⊥

  -- the place of its oldest checkpoint
  abbrev pub member_first : Member S → ℕ
  member_first (here s) = s.disk.pruned
  member_first (closed d) = d.pruned
  member_first (lost d) = d.pruned
  member_first away = 0

  -- the place of its newest checkpoint
  abbrev pub member_place : Member S → ℕ
  member_place (here s) = place s.disk
  member_place (closed d) = place d
  member_place (lost d) = place d
  member_place away = 0

  -- the place of its last durable checkpoint
  abbrev pub member_durable : Member S → ℕ
  member_durable (here s) = s.disk.durable
  member_durable (closed d) = d.durable
  member_durable (lost d) = d.durable
  member_durable away = 0

  -- the places of the tokens that are out, the oldest first
  abbrev pub member_tokens : Member S → List ℕ
  member_tokens (here s) = s.out
  member_tokens _ = []

  -- here, and no token is out
  abbrev pub IsIdle : Member S → Type 0
  IsIdle (here s) = s.out ≡ []
  IsIdle _ = ⊥

  -- here, and at most one token is out
  abbrev pub HasRoom : Member S → Type 0
  HasRoom (here s) = length s.out < 2
  HasRoom _ = ⊥

  -- closed, or lost with its medium
  abbrev pub IsOpenable : Member S → Type 0
  IsOpenable (closed d) = Unit {0}
  IsOpenable (lost d) = Unit {0}
  IsOpenable _ = ⊥

  abbrev pub IsClosed : Member S → Type 0
  IsClosed (closed d) = Unit {0}
  IsClosed _ = ⊥

  -- not away
  abbrev pub IsNotAway : Member S → Type 0
  IsNotAway away = ⊥
  IsNotAway _ = Unit {0}

  abbrev pub IsAway : Member S → Type 0
  IsAway away = Unit {0}
  IsAway _ = ⊥

  -- lost with its medium
  abbrev pub IsLost : Member S → Type 0
  IsLost (lost d) = Unit {0}
  IsLost _ = ⊥

  -- one checkpoint more
  abbrev pub member_applied : Member S → ℕ × S → Member S
  member_applied (here s) p = here (record s { id = p.0; disk = applied s.disk p.1 })
  member_applied m p = m

  -- a token more is out, for all checkpoints
  abbrev pub member_finalized : Member S → Member S
  member_finalized (here s) = here (record s { out = s.out ++ place s.disk ∷ [] })
  member_finalized m = m

  -- durable up to this place, and a token of it is in
  abbrev pub member_flushed : Member S → ℕ → Member S
  member_flushed (here s) n = here (record s { disk = flushed s.disk n; out = without n s.out })
  member_flushed m n = m

  -- closed, where it was opened and is here
  abbrev pub member_closed_if : Bool → Member S → Member S
  member_closed_if true (here s) = closed s.disk
  member_closed_if opened m = m

  -- lost by a failed apply of a batch that shows this state
  abbrev pub IsLostApplying : Member S → S → Member S → Type 0
  IsLostApplying (here s) t (lost d) = IsEither s.disk (applied s.disk t) d
  IsLostApplying _ t m = ⊥

  -- lost by a failed finalize, which changes nothing of the disk
  abbrev pub IsLostFinalizing : Member S → Member S → Type 0
  IsLostFinalizing (here s) (lost d) = d ≡ s.disk
  IsLostFinalizing _ m = ⊥

  -- lost by a failed flush up to this place
  abbrev pub IsLostFlushing : Member S → ℕ → Member S → Type 0
  IsLostFlushing (here s) n (lost d) = IsEither s.disk (flushed s.disk n) d
  IsLostFlushing _ n m = ⊥

  -- closed, with what a crash leaves of this disk that keeps so many checkpoints, or all
  abbrev pub IsCrashed : Option ℕ → Disk S → Member S → Type 0
  IsCrashed None d (closed e) = e ≡ d
  IsCrashed (Some keep) d (closed e) = IsCrash keep d e
  IsCrashed keep d m = ⊥

  -- not away before a crash that keeps so many checkpoints, or all; closed behind it
  abbrev pub MemberCrashed : Member S → Option ℕ → Member S → Type 0
  MemberCrashed (here s) keep m = IsCrashed keep s.disk m
  MemberCrashed (closed d) keep m = IsCrashed keep d m
  MemberCrashed (lost d) keep m = IsCrashed keep d m
  MemberCrashed away keep m = ⊥

  -- at this state, where it is here
  abbrev pub MemberHas : Member S → S → Type 0
  MemberHas (here s) t = s.disk.newest ≡ t
  MemberHas _ t = Unit {0}

module _ {S T : Type 0} (target_of : S → T) (targeted : T → Target) where
  -- its checkpoints are in order
  abbrev pub MemberIsSound : Member S → Type 0
  MemberIsSound (here s) = IsSound (λ t. targeted (target_of t)) s.disk
  MemberIsSound (closed d) = IsSound (λ t. targeted (target_of t)) d
  MemberIsSound (lost d) = IsSound (λ t. targeted (target_of t)) d
  MemberIsSound away = Unit {0}

  -- here without tokens out, and a kept durable checkpoint has this target
  abbrev pub IsPrunable : Member S → T → Type 0
  IsPrunable (here s) t = (s.out ≡ []) × KeepsDurable target_of targeted t s.disk
  IsPrunable _ t = ⊥

  -- without the checkpoints that are older than the one of this target
  abbrev pub member_pruned : Member S → T → Member S
  member_pruned (here s) t = here (record s { disk = pruned_to target_of targeted t s.disk })
  member_pruned m t = m

  -- lost by a failed prune to this target
  abbrev pub IsLostPruning : Member S → T → Member S → Type 0
  IsLostPruning (here s) t (lost d) = IsEither s.disk (pruned_to target_of targeted t s.disk) d
  IsLostPruning _ t m = ⊥

  -- where it was closed or lost, it is open at its checkpoint of the expected target, or at the
  -- latest; else it is as before
  abbrev pub MemberReopened : Member S → Option T → Member S → Type 0
  MemberReopened (here s) expected m = m ≡ here s
  MemberReopened away expected m = m ≡ away
  MemberReopened (closed d) expected (here s) = Reopens target_of targeted expected d s
  MemberReopened (lost d) expected (here s) = Reopens target_of targeted expected d s
  MemberReopened _ expected m = ⊥

  -- where it was closed or lost, it is closed, at the checkpoint at which it was opened; else it is
  -- as before
  abbrev pub MemberReclosed : Member S → Option T → Member S → Type 0
  MemberReclosed (here s) expected m = m ≡ here s
  MemberReclosed away expected m = m ≡ away
  MemberReclosed (closed d) expected (closed e) =
      (s : Standing S) × Reopens target_of targeted expected d s × (e ≡ s.disk)
  MemberReclosed (lost d) expected (closed e) =
      (s : Standing S) × Reopens target_of targeted expected d s × (e ≡ s.disk)
  MemberReclosed _ expected m = ⊥

  -- it was closed or lost, and its checkpoints speak against an opening, for this reason
  abbrev pub MemberRefuses : Member S → Option T → InitError → Type 0
  MemberRefuses (closed d) expected why = Refuses target_of targeted expected d why
  MemberRefuses (lost d) expected why = Refuses target_of targeted expected d why
  MemberRefuses _ expected why = ⊥

  -- it doesn't open at its checkpoint of the expected target, or at the latest, for this reason,
  -- which may be that its count rose: it is lost where it failed or wanted memory, and else closed
  -- as before
  abbrev pub IsNotOpened : Option T → Disk S → (before now : ℕ) → InitError → Member S → Type 0
  IsNotOpened expected d before now error.Database m =
      (Rose before now × (m ≡ lost d)) ⊎ (HasNone target_of targeted expected d × (m ≡ closed d))
  IsNotOpened expected d before now (error.TargetMismatch given recovered) m =
      Differs target_of targeted expected d given recovered × (m ≡ closed d)
  IsNotOpened expected d before now error.OutOfMemory m = m ≡ lost d

  -- it was closed or lost, and doesn't open
  abbrev pub MemberNotOpened : Member S
      → Option T
      → (before now : ℕ)
      → InitError
      → Member S
      → Type 0
  MemberNotOpened (closed d) expected before now why m = IsNotOpened expected d before now why m
  MemberNotOpened (lost d) expected before now why m = IsNotOpened expected d before now why m
  MemberNotOpened _ expected before now why m = ⊥
