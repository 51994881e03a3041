-- What holds of ranges.
use Rattle.std.specs.Prelude.{◌≡◌, ℕ, ◌<◌, true, List, ◌∷◌, ◌++◌, None, length}
use Rattle.std.specs.declared.cmp.Ordering.{Ordering}
use Rattle.stateful_db_any.specs.declared.op.AnyOp.{AnyOp}
use Rattle.stateful_db_any.specs.Live.{last_write, stays}
use Rattle.stateful_db_any.specs.Any.{State, live_at, after}

module _ {K V : Type 0} (cmp : K → K → Ordering) (spell_key : K → List ℕ)
    (spell_value : V → List ℕ) where
  -- what a range leaves out says nothing of any key
  abbrev pub KeepsLiveKeys : Type 0
  KeepsLiveKeys =
      (s : State K V) (more : List (AnyOp K V)) (key : K)
      → live_at cmp (after cmp spell_key spell_value s more) key
      ≡ last_write cmp key s.target.start.0 (s.kept ++ more) None

  -- the first operation of a range has to be kept
  abbrev pub BeginsWithNeed : Type 0
  BeginsWithNeed =
      (s : State K V) (more : List (AnyOp K V))
      → 0 < length (s.kept ++ more)
      → (op : AnyOp K V)
      ×
      ((later : List (AnyOp K V))
      ×
      (((after cmp spell_key spell_value s more).kept ≡ op ∷ later)
      × (stays cmp op later ≡ true)))
