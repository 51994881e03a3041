-- Writes of keys, and what they make of a state.
use Rattle.std.specs.Prelude.{◌≡◌, ℕ, ◌+◌, List, [], ◌∷◌, Option}
use Rattle.std.specs.Option.{unwrap_or}
use Rattle.std.specs.Ordering.{nat_cmp}
use Rattle.std.specs.BTreeMap.{is_at}
use Rattle.std.specs.Map.{lookup, keys_of}
use Rattle.std.specs.List.Sorted.{IsStrictlySortedBy}
use Rattle.stateful_base.specs.declared.target.Target.{Target}
use Rattle.stateful_db_plain.specs.Whole.{Whole, value_at, target_of}

-- What a sealed batch changes: the value of each key that it writes, or none where it takes the
-- entry away, and the root with the range behind it.
pub record Change : Type 0 where
  pub writes : List (ℕ × Option ℕ)
  pub target : Target

-- the value at a key behind writes: what they say of it, or what was there before
abbrev pub value_over : List (ℕ × Option ℕ) → ℕ → Option ℕ → Option ℕ
value_over writes key before = unwrap_or (lookup (is_at (nat_cmp key)) writes) before

-- the same behind sealed batches, the newest first
abbrev pub value_through : List (ℕ × Change) → ℕ → Option ℕ → Option ℕ
value_through [] key before = before
value_through (l ∷ ls) key before = value_over l.1.writes key (value_through ls key before)

-- the keys of entries ascend
abbrev pub IsInOrder : List (ℕ × ℕ) → Type 0
IsInOrder entries = IsStrictlySortedBy nat_cmp (keys_of entries)

-- Writes on a state give the next one, whose range ends one later. There is only one such.
pub record Gives (writes : List (ℕ × Option ℕ)) (s t : Whole) : Type 0 where
  pub size : t.size ≡ s.size + 1
  pub ordered : IsInOrder t.entries
  pub values : (key : ℕ)
      → value_at t.entries key ≡ value_over writes key (value_at s.entries key)

-- the entries of the second state are those of the first, with the writes of sealed batches made
-- and then these
pub record Makes (writes : List (ℕ × Option ℕ)) (below : List (ℕ × Change)) (s t : Whole)
    : Type 0 where
  pub ordered : IsInOrder t.entries
  pub values : (key : ℕ)
      → value_at t.entries key
      ≡ value_over writes key (value_through below key (value_at s.entries key))

-- the target is that of each state of its size whose entries they give
abbrev pub Roots : Target → List (ℕ × Option ℕ) → List (ℕ × Change) → Whole → Type 0
Roots target writes below s =
    (t : Whole) → t.size ≡ target.end.0 → Makes writes below s t → target ≡ target_of t
