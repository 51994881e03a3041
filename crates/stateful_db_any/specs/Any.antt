-- The states of a log of keys, and what a batch makes of them.
use Rattle.std.specs.Prelude.{◌≡◌, ℕ, ◌+◌, Bool, if◌then◌else◌, List, [], ◌∷◌, ◌++◌, Option, Some}
use Rattle.std.specs.Prelude.{None, is_some, option_map, length}
use Rattle.std.specs.declared.cmp.Ordering.{Ordering}
use Rattle.stateful_base.specs.declared.target.Target.{Target}
use Rattle.stateful_db_medium.specs.declared.checkpoints.Checkpoint.{Checkpoint}
use Rattle.stateful_db_log.specs.Chained.{chained, unlinked}
use Rattle.stateful_db_log.specs.Logs.{extended}
use Rattle.stateful_db_any.specs.declared.op.AnyOp.{AnyOp}
use Rattle.stateful_db_any.specs.declared.op.AnyOp.TheVariants.{Commit, Update, Delete}
use Rattle.stateful_db_any.specs.Ops.{Changes, unchanged, op_bytes}
use Rattle.stateful_db_any.specs.Live.{last_write, passed}

-- a log from its floor on: the root with the range, and the operations of the range
abbrev pub State : Type 0 → Type 0 → Type 0
State K V = Checkpoint (List (AnyOp K V))

module _ {K V : Type 0} where
  abbrev pub target_of : State K V → Target
  target_of s = s.target

  abbrev pub size_of : State K V → ℕ
  size_of s = s.target.end.0

  -- the operations end where the range does
  abbrev pub IsWhole : State K V → Type 0
  IsWhole s = s.target.start.0 + length s.kept ≡ size_of s

  -- the metadata of the last operation, which is a commit
  abbrev pub metadata_of : List (AnyOp K V) → Option V
  metadata_of [] = None
  metadata_of (Commit metadata ∷ []) = metadata
  metadata_of (Update key value ∷ []) = None
  metadata_of (Delete key ∷ []) = None
  metadata_of (op ∷ next ∷ ops) = metadata_of (next ∷ ops)

  -- the operations of written keys: an update, or a delete where the key is live, and else none
  abbrev pub ops_for : (K → Bool) → List (K × Option V) → List (AnyOp K V)
  ops_for live [] = []
  ops_for live ((key, Some value) ∷ writes) = Update key value ∷ ops_for live writes
  ops_for live ((key, None) ∷ writes) =
      if live key then Delete key ∷ ops_for live writes else ops_for live writes

  module _ (cmp : K → K → Ordering) where
    -- where a key is live: the location of its last write, and its value
    abbrev pub live_at : State K V → K → Option (ℕ × V)
    live_at s key = last_write cmp key s.target.start.0 s.kept None

    -- the value at a key, where there is one
    abbrev pub value_at : State K V → K → Option V
    value_at s key = option_map (λ w. w.1) (live_at s key)

    -- the operations of a batch: those of the keys that it writes, in order, and then the commit
    abbrev pub ops_of : Changes K V → State K V → List (AnyOp K V)
    ops_of ch s = ops_for (λ key. is_some (live_at s key)) ch.writes ++ Commit ch.metadata ∷ []

    module _ (spell_key : K → List ℕ) (spell_value : V → List ℕ) where
      -- the state behind more operations: its range begins at the first that has to be kept
      abbrev pub after : State K V → List (AnyOp K V) → State K V
      after s more = extended s more (record {
        root = chained (op_bytes spell_key spell_value) s.target.root more;
        start = record { 0 = s.target.start.0 + passed cmp (s.kept ++ more) };
        end = record { 0 = size_of s + length more };
      })

      -- the state that the seal of a batch gives
      abbrev pub sealed : Changes K V → State K V → State K V
      sealed ch s = after s (ops_of ch s)

      -- that of a batch without changes
      abbrev pub begun : State K V → State K V
      begun s = sealed unchanged s

  module _ (spell_key : K → List ℕ) (spell_value : V → List ℕ) where
    -- one commit without metadata
    abbrev pub initial : State K V
    initial = record {
      target =
          record {
            root =
                chained (op_bytes spell_key spell_value) unlinked (Commit None ∷ []);
            start =
                record { 0 = 0 };
            end = record { 0 = 1 };
          };
      kept = Commit None ∷ [];
    }
