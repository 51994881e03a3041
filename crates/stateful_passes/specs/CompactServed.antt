-- What a compact database answers to others that sync.
use Rattle.std.specs.Prelude.{◌≡◌, ℕ, ◌+◌, slice_get, Some}
use Rattle.stateful_base.specs.declared.number.Location.{Location}
use Rattle.stateful_types.specs.declared.request.Request.{Request}
use Rattle.stateful_types.specs.declared.request.Request.TheVariants as asks
use Rattle.stateful_types.specs.declared.response.Response.{Response}
use Rattle.stateful_types.specs.declared.response.Response.TheVariants as told
use Rattle.stateful_db.specs.Disk.{Disk, all}
use Rattle.stateful_db_compact.specs.declared.op.KeylessOp.{KeylessOp}
use Rattle.stateful_db_compact.specs.declared.op.KeylessOp.TheVariants.{Commit}
use Rattle.stateful_db_compact.specs.Compacted.{State, size_of}

module _ {V : Type 0} where
  -- a kept checkpoint has so many operations, and its last one, the commit, stands at `start`
  pub record IsBehind (d : Disk (State V)) (size start : Location) (s : State V) : Type 0 where
    pub number : ℕ
    pub kept : slice_get (all d) number ≡ Some s
    pub ends : size_of s ≡ size.0
    pub last : start.0 + 1 ≡ size.0

  -- the latest operation of this checkpoint is asked for, with the digest before it
  abbrev pub AsksFor : Disk (State V) → Request → State V → Type 0
  AsksFor d (asks.Boundary size start) s = IsBehind d size start s
  AsksFor d (asks.Operations size start max_ops) s = ⊥

  abbrev pub Holds : Disk (State V) → Request → Type 0
  Holds d request = (s : State V) × AsksFor d request s

  -- the response has the commit of this checkpoint, and the digest before it
  abbrev pub Tells : State V → Response (KeylessOp V) → Type 0
  Tells s (told.Boundary before op) =
      (before ≡ s.kept.before) × (op ≡ Commit s.kept.metadata s.kept.floor)
  Tells s (told.Operations operations) = ⊥

  abbrev pub Answers : Disk (State V) → Request → Response (KeylessOp V) → Type 0
  Answers d request response = (s : State V) × AsksFor d request s × Tells s response
