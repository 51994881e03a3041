-- Reads over batches that stand one on the other.
use Rattle.std.specs.Prelude.{◌≡◌, ℕ, List, [], ◌∷◌, Option, All}
use Rattle.std.specs.BTreeMap.{is_at}
use Rattle.std.specs.List.Sorted.{IsStrictlySortedBy}
use Rattle.std.specs.Map.{lookup, keys_of}
use Rattle.std.specs.Option.{unwrap_or}
use Rattle.std.specs.declared.cmp.Ordering.{Ordering}
use Rattle.stateful_db_any.specs.Ops.{Changes}
use Rattle.stateful_db_any.specs.Any.{State, value_at, sealed}

module _ {K V : Type 0} (cmp : K → K → Ordering) where
  -- the newest write of these batches at a key, the newest batch first, or else this value
  abbrev pub newest_or : K → List (Changes K V) → Option V → Option V
  newest_or key [] below = below
  newest_or key (batch ∷ older) below =
      unwrap_or (lookup (is_at (cmp key)) batch.writes) (newest_or key older below)

  -- a batch has a write of a key once, in the order of the keys
  abbrev pub IsOrdered : Changes K V → Type 0
  IsOrdered batch = IsStrictlySortedBy cmp (keys_of batch.writes)

  module _ (spell_key : K → List ℕ) (spell_value : V → List ℕ) where
    -- the state that the seals of these batches give, one on the other, the newest first
    abbrev pub sealed_on : List (Changes K V) → State K V → State K V
    sealed_on [] s = s
    sealed_on (batch ∷ older) s = sealed cmp spell_key spell_value batch (sealed_on older s)

    -- a read gives the newest write of the batches, or else the value of the state below them
    abbrev pub GivesNewest : Type 0
    GivesNewest =
        (batches : List (Changes K V)) (s : State K V) (key : K)
        → All IsOrdered batches
        → value_at cmp (sealed_on batches s) key ≡ newest_or key batches (value_at cmp s key)
