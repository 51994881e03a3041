-- The state that a sync of a compact database makes.
use Rattle.std.specs.Prelude.{ℕ, List, [], ◌∷◌, Option, Some, None}
use Rattle.stateful_base.specs.declared.digest.Digest.{Digest}
use Rattle.stateful_base.specs.declared.target.Target.{Target}
use Rattle.stateful_db_pass.specs.Fetched.{Fetched}
use Rattle.stateful_db_compact.specs.declared.op.KeylessOp.{KeylessOp}
use Rattle.stateful_db_compact.specs.declared.op.KeylessOp.TheVariants.{Commit, Append}
use Rattle.stateful_db_compact.specs.Compacted.{State, initial}

module _ {V : Type 0} (spell : V → List ℕ) where
  abbrev pub made_with : Target → Option Digest → List (KeylessOp V) → State V
  made_with target (Some before) (Commit metadata floor ∷ []) =
      record {
        target = target;
        kept = record { before = before; metadata = metadata; floor = floor };
      }
  made_with target (Some before) (Commit metadata floor ∷ op ∷ ops) = initial spell
  made_with target (Some before) (Append value ∷ ops) = initial spell
  made_with target (Some before) [] = initial spell
  made_with target None ops = initial spell

  -- The state behind the commit that is there, with the digest before it. That of an empty medium,
  -- where not just one commit is there.
  abbrev pub made : Fetched (KeylessOp V) → State V
  made p = made_with p.target p.before p.ops
