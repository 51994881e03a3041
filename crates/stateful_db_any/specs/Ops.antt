-- Operations of a log of keys in bytes, and the changes of a batch.
use Rattle.std.specs.Prelude.{ℕ, List, [], ◌∷◌, ◌++◌, Option, Some, None}
use Rattle.stateful_db_any.specs.declared.op.AnyOp.{AnyOp}
use Rattle.stateful_db_any.specs.declared.op.AnyOp.TheVariants.{Commit, Update, Delete}

-- a commit with its metadata, where there is some; the update of a key with its value; the delete
-- of a key
abbrev pub op_bytes : {K V : Type 0} → (K → List ℕ) → (V → List ℕ) → AnyOp K V → List ℕ
op_bytes spell_key spell_value (Commit None) = 0 ∷ 0 ∷ []
op_bytes spell_key spell_value (Commit (Some metadata)) = 0 ∷ 1 ∷ spell_value metadata
op_bytes spell_key spell_value (Update key value) = 1 ∷ spell_key key ++ spell_value value
op_bytes spell_key spell_value (Delete key) = 2 ∷ spell_key key

-- What a batch changes: the keys that it writes, in order, each with its value, or with none where
-- it deletes it; and the metadata of its commit.
pub record Changes (K V : Type 0) : Type 0 where
  pub writes : List (K × Option V)
  pub metadata : Option V

abbrev pub unchanged : {K V : Type 0} → Changes K V
unchanged = record { writes = []; metadata = None }
