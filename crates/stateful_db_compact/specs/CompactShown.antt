-- The chains on which compact batches stand.
use Rattle.std.specs.Prelude.{◌≡◌, ℕ, ◌+◌, ◌-◌, ◌^◌, ◌<◌, List, [], ◌∷◌, length, min}
use Rattle.stateful_db_overlay.specs.Chains.{Stands}
use Rattle.stateful_db_log.specs.Chained.{chained}
use Rattle.stateful_db_compact.specs.declared.compact.batch.KeylessUnjournaledUnmerkleized.{KeylessUnjournaledUnmerkleized}
use Rattle.stateful_db_compact.specs.declared.compact.batch.KeylessUnjournaledMerkleized.{KeylessUnjournaledMerkleized}
use Rattle.stateful_db_compact.specs.Ops.{Changes, append_bytes}
use Rattle.stateful_db_compact.specs.Compacted.{State, size_of, sealed}

-- nothing is read from the layers of a compact batch
abbrev pub Unread : {V : Type 0} → Unit {0} → State V → State V → Type 0
Unread change s t = Unit {0}

abbrev pub TopIs : {V : Type 0} → List (ℕ × State V) → State V → Type 0
TopIs [] s = ⊥
TopIs (p ∷ c) s = p.1 ≡ s

module _ {V : Type 0} (spell : V → List ℕ) where
  -- a batch that may still change has these changes on its parent's state
  pub record Holds (u : KeylessUnjournaledUnmerkleized V) (ch : Changes V)
      (s : State V) : Type 0 where
    pub before : u.before ≡ chained (append_bytes spell) s.target.root ch.values
    pub end : u.end ≡ min (size_of s + length ch.values) (2 ^ 64 - 1)
    pub floor : u.floor ≡ s.kept.floor
    pub metadata : u.metadata ≡ ch.metadata
    pub asked : u.asked ≡ ch.floor

  -- It stands on this chain, whose second point is its parent. The state of the first is the one
  -- that a seal gives now.
  abbrev pub DraftShows : KeylessUnjournaledUnmerkleized V → List (ℕ × State V) → Type 0
  DraftShows u [] = ⊥
  DraftShows u (p ∷ []) = ⊥
  DraftShows u (p ∷ q ∷ c) =
      (p.0 ≡ u.id)
      ×
      ((q.0 < p.0)
      ×
      (Stands Unread u.below.base u.below.layers (q ∷ c)
      × ((ch : Changes V) × (Holds u ch q.1 × (p.1 ≡ sealed spell ch q.1)))))

-- the sealed batch stands on this chain, and has the state of its first point
pub record SealShows {V : Type 0} (m : KeylessUnjournaledMerkleized V)
    (c : List (ℕ × State V)) : Type 0 where
  pub chain : Stands Unread m.below.base (m.layer ∷ m.below.layers) c
  pub top : TopIs c m.state
