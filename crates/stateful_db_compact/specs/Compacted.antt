-- What a compact database keeps of a checkpoint, and what a batch makes of it.
use Rattle.std.specs.Prelude.{ℕ, ◌+◌, ◌-◌, List, Option, None, length}
use Rattle.stateful_base.specs.declared.digest.Digest.{Digest}
use Rattle.stateful_base.specs.declared.target.CompactTarget.{CompactTarget}
use Rattle.stateful_db_medium.specs.declared.checkpoints.Checkpoint.{Checkpoint}
use Rattle.stateful_db_log.specs.Chained.{linked, chained, unlinked}
use Rattle.stateful_db_compact.specs.declared.compact.state.Commit.{Commit}
use Rattle.stateful_db_compact.specs.Ops.{Changes, unchanged, raised, commit_bytes, append_bytes}

-- a checkpoint: the digest behind all operations with their range, and the latest of them
abbrev pub State : Type 0 → Type 0
State V = Checkpoint (Commit V)

module _ {V : Type 0} where
  -- the number of operations
  abbrev pub size_of : State V → ℕ
  size_of s = s.target.end.0

  -- this digest behind so many operations, of which the last is this commit
  abbrev pub state_of : Digest → ℕ → Commit V → State V
  state_of root size commit =
      record {
        target =
            record { root = root; start = record { 0 = size - 1 }; end = record { 0 = size } };
        kept =
            commit;
      }

  abbrev pub target_of : State V → CompactTarget
  target_of s = record { root = s.target.root; size = s.target.end }

module _ {V : Type 0} (spell : V → List ℕ) where
  -- the state behind a commit, at this location and behind this digest
  abbrev pub committed : Digest → ℕ → Option V → ℕ → State V
  committed before at metadata floor =
      state_of (linked before (commit_bytes spell metadata floor)) (at + 1)
      (record { before = before; metadata = metadata; floor = floor })

  -- one commit without metadata, and with the floor 0
  abbrev pub initial : State V
  initial = committed unlinked 0 None 0

  -- the state that the seal of a batch gives: its values are appended, and then a commit
  abbrev pub sealed : Changes V → State V → State V
  sealed ch s =
      let commit = size_of s + length ch.values in
      committed (chained (append_bytes spell) s.target.root ch.values) commit ch.metadata
      (raised s.kept.floor ch.floor commit)

  -- that of a batch without changes
  abbrev pub begun : State V → State V
  begun s = sealed unchanged s
