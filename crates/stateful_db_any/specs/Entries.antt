-- The entries of a state: its live keys with their values.
use Rattle.std.specs.Prelude.{◌≡◌, List}
use Rattle.std.specs.List.Sorted.{IsStrictlySortedBy}
use Rattle.std.specs.Map.{keys_of, lookup}
use Rattle.std.specs.BTreeMap.{is_at}
use Rattle.std.specs.declared.cmp.Ordering.{Ordering}
use Rattle.stateful_db_any.specs.Any.{State, value_at}

-- these are the live keys in ascending order, each with its value
pub record AreLive {K V : Type 0} (cmp : K → K → Ordering) (s : State K V) (entries : List (K × V))
    : Type 0 where
  pub ascending : IsStrictlySortedBy cmp (keys_of entries)
  pub values : (key : K) → lookup (is_at (cmp key)) entries ≡ value_at cmp s key

-- a state has one list of its entries
abbrev pub HasOneList : {K : Type 0} (V : Type 0) → (K → K → Ordering) → Type 0
HasOneList {K} V cmp =
    (s : State K V) (entries others : List (K × V))
    → AreLive cmp s entries
    → AreLive cmp s others
    → entries ≡ others
