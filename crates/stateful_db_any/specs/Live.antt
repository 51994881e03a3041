-- Which keys are live behind operations, and which operations have to be kept for that.
use Rattle.std.specs.Prelude.{ℕ, ◌+◌, Bool, true, false, not, if◌then◌else◌, List, [], ◌∷◌, Option}
use Rattle.std.specs.Prelude.{Some, None}
use Rattle.std.specs.List.{list_any}
use Rattle.std.specs.declared.cmp.Ordering.{Ordering}
use Rattle.std.specs.BTreeMap.{is_at}
use Rattle.stateful_db_any.specs.declared.op.AnyOp.{AnyOp}
use Rattle.stateful_db_any.specs.declared.op.AnyOp.TheVariants.{Commit, Update, Delete}

module _ {K V : Type 0} (cmp : K → K → Ordering) where
  -- the operation writes this key
  abbrev pub writes_key : K → AnyOp K V → Bool
  writes_key key (Commit metadata) = false
  writes_key key (Update other value) = is_at (cmp other) key
  writes_key key (Delete other) = is_at (cmp other) key

  -- what the operation at a location makes of a key that has this location and value, where it is
  -- live
  abbrev pub written : K → ℕ → AnyOp K V → Option (ℕ × V) → Option (ℕ × V)
  written key at (Commit metadata) before = before
  written key at (Update other value) before =
      if is_at (cmp other) key then Some (at, value) else before
  written key at (Delete other) before = if is_at (cmp other) key then None else before

  -- The location of the last write of a key and its value, where the key is live behind operations
  -- that begin at a location. It is what was there before them, where none writes the key.
  abbrev pub last_write : K → ℕ → List (AnyOp K V) → Option (ℕ × V) → Option (ℕ × V)
  last_write key at [] before = before
  last_write key at (op ∷ ops) before = last_write key (at + 1) ops (written key at op before)

  -- the operation is the last write of a live key, where these are the later ones
  abbrev pub is_last : AnyOp K V → List (AnyOp K V) → Bool
  is_last (Commit metadata) later = false
  is_last (Update key value) later = not (list_any (writes_key key) later)
  is_last (Delete key) later = false

  -- the operation has to be kept: it is the last of all, or the last write of a live key
  abbrev pub stays : AnyOp K V → List (AnyOp K V) → Bool
  stays op [] = true
  stays op (next ∷ later) = is_last op (next ∷ later)

  -- how many operations stand before the first that has to be kept
  abbrev pub passed : List (AnyOp K V) → ℕ
  passed [] = 0
  passed (op ∷ ops) = if stays op ops then 0 else passed ops + 1
