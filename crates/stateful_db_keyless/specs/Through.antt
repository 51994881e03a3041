-- What sealed batches on a database say of locations, the newest first.
use Rattle.std.specs.Prelude.{◌≡◌, ℕ, ◌+◌, ◌-◌, nat_lt, if◌then◌else◌, List, [], ◌∷◌, Option}
use Rattle.std.specs.Prelude.{length, slice_get}
use Rattle.stateful_db_compact.specs.declared.op.KeylessOp.{KeylessOp}
use Rattle.stateful_db_keyless.specs.declared.keyless.batch.KeylessChanges.{KeylessChanges}
use Rattle.stateful_db_keyless.specs.Keyless.{State, size_of}

module _ {V : Type 0} where
  -- the operations end where the range does
  abbrev pub IsWhole : State V → Type 0
  IsWhole s = s.target.start.0 + length s.kept ≡ size_of s

  -- the operation at a location: one of these, which begin at a location, or one below them
  abbrev pub op_over : ℕ → List (KeylessOp V) → ℕ → Option (KeylessOp V) → Option (KeylessOp V)
  op_over from ops at below = if nat_lt at from then below else slice_get ops (at - from)

  abbrev pub op_through : List (ℕ × KeylessChanges V)
      → ℕ
      → Option (KeylessOp V)
      → Option (KeylessOp V)
  op_through [] at below = below
  op_through (l ∷ ls) at below = op_over l.1.from l.1.ops.items at (op_through ls at below)
