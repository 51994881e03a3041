-- The chains on which batches of keys stand.
use Rattle.std.specs.Prelude.{◌≡◌, ℕ, ◌<◌, List, [], ◌∷◌}
use Rattle.std.specs.declared.cmp.Ordering.{Ordering}
use Rattle.stateful_base.specs.declared.target.Target.{Target}
use Rattle.stateful_db_overlay.specs.Stack.{Stack}
use Rattle.stateful_db_overlay.specs.Chains.{Stands}
use Rattle.stateful_db_any.specs.declared.op.AnyOp.{AnyOp}
use Rattle.stateful_db_any.specs.Ops.{Changes}
use Rattle.stateful_db_any.specs.Any.{State, size_of, after, sealed}
use Rattle.stateful_db_any.specs.Through.{Change, IsIndexed}

-- A batch that may still change: its id, the sealed batches below it, the root of its parent with
-- its range, and what it changes.
pub record Draft (K V : Type 0) : Type 0 where
  pub id : ℕ
  pub below : Stack (Change K V)
  pub parent : Target
  pub changes : Changes K V

-- a sealed batch: its id with what it changes, and the sealed batches below it
pub record Seal (K V : Type 0) : Type 0 where
  pub layer : ℕ × Change K V
  pub below : Stack (Change K V)

-- the operations of a sealed batch
abbrev pub ops_in : {K V : Type 0} → Seal K V → List (AnyOp K V)
ops_in m = m.layer.1.written.ops

module _ {K V : Type 0} (cmp : K → K → Ordering) (spell_key : K → List ℕ)
    (spell_value : V → List ℕ) where
  -- the operations of a sealed batch begin where its parent's end, and lead from its state to the
  -- batch's
  abbrev pub After : Change K V → State K V → State K V → Type 0
  After ch s t =
      (ch.written.from ≡ size_of s)
      ×
      (IsIndexed cmp ch.written
      × ((t ≡ after cmp spell_key spell_value s ch.written.ops) × (ch.target ≡ t.target)))

  -- It stands on this chain, whose second point is its parent. The state of the first is the one
  -- that a seal gives now.
  abbrev pub DraftShows : Draft K V → List (ℕ × State K V) → Type 0
  DraftShows u [] = ⊥
  DraftShows u (p ∷ []) = ⊥
  DraftShows u (p ∷ q ∷ c) =
      (p.0 ≡ u.id)
      ×
      ((q.0 < p.0)
      ×
      (Stands After u.below.base u.below.layers (q ∷ c)
      ×
      ((u.parent ≡ q.1.target)
      × (p.1 ≡ sealed cmp spell_key spell_value u.changes q.1))))

  -- the sealed batch stands on this chain
  abbrev pub SealShows : Seal K V → List (ℕ × State K V) → Type 0
  SealShows m c = Stands After m.below.base (m.layer ∷ m.below.layers) c
