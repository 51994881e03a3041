-- Operations of a keyless log in bytes, and the changes of a batch.
use Rattle.std.specs.Prelude.{ℕ, List, [], ◌∷◌, ◌++◌, Option, Some, None, Bool, true, false}
use Rattle.std.specs.Prelude.{max, min}
use Rattle.std.specs.Int.{w64, to_be_bytes}
use Rattle.stateful_db_compact.specs.declared.op.KeylessOp.{KeylessOp}
use Rattle.stateful_db_compact.specs.declared.op.KeylessOp.TheVariants.{Commit, Append}

-- the metadata of a commit: byte 0 where there is none, or byte 1 and the metadata
abbrev pub metadata_bytes : {V : Type 0} → (V → List ℕ) → Option V → List ℕ
metadata_bytes spell None = 0 ∷ []
metadata_bytes spell (Some metadata) = 1 ∷ spell metadata

-- a commit: byte 0, its metadata, and the floor
abbrev pub commit_bytes : {V : Type 0} → (V → List ℕ) → Option V → ℕ → List ℕ
commit_bytes spell metadata floor = 0 ∷ metadata_bytes spell metadata ++ to_be_bytes w64 floor

-- an appended value: byte 1, and the value
abbrev pub append_bytes : {V : Type 0} → (V → List ℕ) → V → List ℕ
append_bytes spell value = 1 ∷ spell value

abbrev pub op_bytes : {V : Type 0} → (V → List ℕ) → KeylessOp V → List ℕ
op_bytes spell (Commit metadata floor) = commit_bytes spell metadata floor
op_bytes spell (Append value) = append_bytes spell value

abbrev pub is_commit : {V : Type 0} → KeylessOp V → Bool
is_commit (Commit metadata floor) = true
is_commit (Append value) = false

-- what a batch changes: the values that it appends, the metadata of its commit, and the floor that
-- it asks for, which is 0 where it asks for none
pub record Changes (V : Type 0) : Type 0 where
  pub values : List V
  pub metadata : Option V
  pub floor : ℕ

abbrev pub unchanged : {V : Type 0} → Changes V
unchanged = record { values = []; metadata = None; floor = 0 }

-- The floor of a commit behind so many operations: the one that was asked for, or the nearest that
-- isn't below the parent's and not behind the commit.
abbrev pub raised : ℕ → ℕ → ℕ → ℕ
raised parent asked commit = max parent (min asked commit)
