-- The chains on which keyless batches stand.
use Rattle.std.specs.Prelude.{◌≡◌, ℕ, ◌+◌, ◌<◌, ◌≤◌, List, [], ◌∷◌, length, map, max}
use Rattle.stateful_db_overlay.specs.Chains.{Stands}
use Rattle.stateful_db_log.specs.Chained.{chained}
use Rattle.stateful_db_log.specs.Logs.{extended}
use Rattle.stateful_db_compact.specs.declared.op.KeylessOp.TheVariants.{Append}
use Rattle.stateful_db_keyless.specs.declared.keyless.batch.KeylessChanges.{KeylessChanges}
use Rattle.stateful_db_keyless.specs.declared.keyless.batch.KeylessUnmerkleized.{KeylessUnmerkleized}
use Rattle.stateful_db_keyless.specs.declared.keyless.batch.KeylessMerkleized.{KeylessMerkleized}
use Rattle.stateful_db_compact.specs.Ops.{Changes, append_bytes}
use Rattle.stateful_db_keyless.specs.Keyless.{State, size_of, sealed}

-- The operations of a sealed batch begin where its parent's end, and lead from its state to the
-- batch's. The range ends behind them; it doesn't begin before the parent's, and not past its end
-- where the parent's doesn't.
abbrev pub After : {V : Type 0} → KeylessChanges V → State V → State V → Type 0
After ch s t =
    (ch.from ≡ size_of s)
    ×
    ((t ≡ extended s ch.ops.items ch.target)
    ×
    ((ch.target.end.0 ≡ size_of s + length ch.ops.items)
    ×
    ((s.target.start.0 ≤ ch.target.start.0)
    × (ch.target.start.0 ≤ max s.target.start.0 ch.target.end.0))))

module _ {V : Type 0} (spell : V → List ℕ) where
  -- a batch that may still change has these changes on its parent's state
  pub record Holds (u : KeylessUnmerkleized V) (ch : Changes V) (s : State V) : Type 0 where
    pub before : u.before ≡ chained (append_bytes spell) s.target.root ch.values
    pub ops : u.ops.items ≡ map Append ch.values
    pub size : u.size ≡ size_of s
    pub floor : u.floor ≡ s.target.start.0
    pub metadata : u.metadata ≡ ch.metadata
    pub asked : u.asked ≡ ch.floor

  -- It stands on this chain, whose second point is its parent. The state of the first is the one
  -- that a seal gives now.
  abbrev pub DraftShows : KeylessUnmerkleized V → List (ℕ × State V) → Type 0
  DraftShows u [] = ⊥
  DraftShows u (p ∷ []) = ⊥
  DraftShows u (p ∷ q ∷ c) =
      (p.0 ≡ u.id)
      ×
      ((q.0 < p.0)
      ×
      (Stands After u.below.base u.below.layers (q ∷ c)
      × ((ch : Changes V) × (Holds u ch q.1 × (p.1 ≡ sealed spell ch q.1)))))

-- the sealed batch stands on this chain
abbrev pub SealShows : {V : Type 0} → KeylessMerkleized V → List (ℕ × State V) → Type 0
SealShows m c = Stands After m.below.base (m.layer ∷ m.below.layers) c
