-- A compact database beside the keyless one with the same batches.
use Rattle.std.specs.Prelude.{◌≡◌, ℕ, List}
use Rattle.stateful_db_compact.specs.Ops.{Changes}
use Rattle.stateful_db_keyless.specs.Keyless as keyless
use Rattle.stateful_db_compact.specs.Compacted as compact

-- the root, the size and the floor are the same
pub record Follows {V : Type 0} (s : keyless.State V) (t : compact.State V) : Type 0 where
  pub root : t.target.root ≡ s.target.root
  pub size : compact.size_of t ≡ keyless.size_of s
  pub floor : t.kept.floor ≡ s.target.start.0

-- those of empty media are, and batches with the same changes keep it so
pub record KeepsFollowing {V : Type 0} (spell : V → List ℕ) : Type 0 where
  pub initial : Follows (keyless.initial spell) (compact.initial spell)
  pub sealed : (ch : Changes V) (s : keyless.State V) (t : compact.State V)
      → Follows s t
      → Follows (keyless.sealed spell ch s) (compact.sealed spell ch t)
