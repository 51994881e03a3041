-- The states of a keyless log, and what a batch makes of them.
use Rattle.std.specs.Prelude.{ℕ, ◌+◌, List, [], ◌∷◌, ◌++◌, None, length, map}
use Rattle.stateful_base.specs.declared.target.Target.{Target}
use Rattle.stateful_db_medium.specs.declared.checkpoints.Checkpoint.{Checkpoint}
use Rattle.stateful_db_log.specs.Chained.{chained, unlinked}
use Rattle.stateful_db_log.specs.Logs.{extended}
use Rattle.stateful_db_compact.specs.declared.op.KeylessOp.{KeylessOp}
use Rattle.stateful_db_compact.specs.declared.op.KeylessOp.TheVariants.{Commit, Append}
use Rattle.stateful_db_compact.specs.Ops.{Changes, unchanged, raised, op_bytes}

-- a log from its floor on: the root with the range, and the operations of the range
abbrev pub State : Type 0 → Type 0
State V = Checkpoint (List (KeylessOp V))

abbrev pub target_of : {V : Type 0} → State V → Target
target_of s = s.target

abbrev pub size_of : {V : Type 0} → State V → ℕ
size_of s = s.target.end.0

-- the operations of a batch whose commit has this floor: an append for each value, and then the
-- commit
abbrev pub ops_of : {V : Type 0} → Changes V → ℕ → List (KeylessOp V)
ops_of ch floor = map Append ch.values ++ Commit ch.metadata floor ∷ []

module _ {V : Type 0} (spell : V → List ℕ) where
  -- one commit without metadata, and with the floor 0
  abbrev pub initial : State V
  initial = record {
    target =
        record {
          root =
              chained (op_bytes spell) unlinked (Commit None 0 ∷ []);
          start =
              record { 0 = 0 };
          end = record { 0 = 1 };
        };
    kept = Commit None 0 ∷ [];
  }

  -- the state that the seal of a batch gives
  abbrev pub sealed : Changes V → State V → State V
  sealed ch s =
      let commit = size_of s + length ch.values in
      let floor = raised s.target.start.0 ch.floor commit in
      extended s (ops_of ch floor)
      (record {
        root =
            chained (op_bytes spell) s.target.root (ops_of ch floor);
        start =
            record { 0 = floor };
        end = record { 0 = commit + 1 };
      })

  -- that of a batch without changes
  abbrev pub begun : State V → State V
  begun s = sealed unchanged s
