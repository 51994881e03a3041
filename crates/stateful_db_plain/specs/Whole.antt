-- A whole state: the end of its range, and its entries by ascending key.
use Rattle.std.specs.Prelude.{ℕ, ◌+◌, ◌-◌, List, [], ◌∷◌, ◌++◌, Option, Some, None}
use Rattle.std.specs.Ordering.{nat_cmp}
use Rattle.std.specs.BTreeMap.{insert_entry, is_at}
use Rattle.std.specs.Map.{lookup, remove_entry}
use Rattle.std.specs.Int.{w64, to_be_bytes}
use Rattle.sha2.specs.Sha256.{sha256}
use Rattle.stateful_base.specs.declared.digest.Digest.{Digest}
use Rattle.stateful_base.specs.declared.target.Target.{Target}

-- the size is the end of the range: one more than the number of applied batches
pub record Whole : Type 0 where
  pub size : ℕ
  pub entries : List (ℕ × ℕ)

-- the value at a key, where there is one
abbrev pub value_at : List (ℕ × ℕ) → ℕ → Option ℕ
value_at entries key = lookup (is_at (nat_cmp key)) entries

-- the entries with this value at the key, or with none
abbrev pub put : List (ℕ × ℕ) → ℕ → Option ℕ → List (ℕ × ℕ)
put entries key None = remove_entry (is_at (nat_cmp key)) entries
put entries key (Some value) = insert_entry nat_cmp entries key value

abbrev pub pair_bytes : ℕ → ℕ → List ℕ
pair_bytes key value = to_be_bytes w64 key ++ to_be_bytes w64 value

-- key and value of each entry, eight bytes each
abbrev pub entry_bytes : List (ℕ × ℕ) → List ℕ
entry_bytes [] = []
entry_bytes (e ∷ es) = pair_bytes e.0 e.1 ++ entry_bytes es

-- the end of the range, and then the entries
abbrev pub whole_bytes : Whole → List ℕ
whole_bytes w = to_be_bytes w64 w.size ++ entry_bytes w.entries

abbrev pub root_of : Whole → Digest
root_of w = record { 0 = sha256 (whole_bytes w) }

-- the range has the last location alone
abbrev pub target_of : Whole → Target
target_of w =
    record { root = root_of w; start = record { 0 = w.size - 1 }; end = record { 0 = w.size } }

-- the state that the seal of a batch without changes gives
abbrev pub begun : Whole → Whole
begun w = record w { size = w.size + 1 }

-- the empty state
abbrev pub initial : Whole
initial = record { size = 1; entries = [] }
