-- Values by number, as lists of numbers with their values.
use Rattle.std.specs.Prelude.{ℕ, ◌==◌, not, Option, None, Some, option_map, List, [], ◌∷◌, filter}
use Rattle.std.specs.Prelude.{sum_by}
use Rattle.std.specs.Option.{unwrap_or}
use Rattle.std.specs.Ordering.{nat_cmp}
use Rattle.std.specs.BTreeMap.{is_at, insert_entry}
use Rattle.std.specs.Map.{lookup, values_of}

module _ {V : Type 0} where
  -- the value at a number
  abbrev pub at : List (ℕ × V) → ℕ → Option V
  at table number = lookup (is_at (nat_cmp number)) table

  -- with this value at a number
  abbrev pub put : List (ℕ × V) → ℕ → V → List (ℕ × V)
  put table number value = insert_entry nat_cmp table number value

  -- without a value at a number
  abbrev pub without : List (ℕ × V) → ℕ → List (ℕ × V)
  without table number = filter (λ entry. not (entry.0 == number)) table

  -- with this value at each of some numbers
  abbrev pub put_each : List (ℕ × V) → List ℕ → V → List (ℕ × V)
  put_each table [] value = table
  put_each table (number ∷ numbers) value = put_each (put table number value) numbers value

  -- the value at the least number
  abbrev pub first_of : List (ℕ × V) → Option V
  first_of [] = None
  first_of (entry ∷ entries) = Some entry.1

  -- what the values weigh together, and what a value weighs, if there is one
  abbrev pub total : (V → ℕ) → List (ℕ × V) → ℕ
  total weigh table = sum_by weigh (values_of table)

  abbrev pub weight_of : (V → ℕ) → Option V → ℕ
  weight_of weigh value = unwrap_or (option_map weigh value) 0
