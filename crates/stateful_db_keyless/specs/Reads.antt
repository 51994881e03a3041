-- Reads of keyless logs, by location.
use Rattle.std.specs.Prelude.{ℕ, ◌+◌, ◌-◌, nat_lt, if◌then◌else◌, List, [], ◌∷◌, ◌++◌, Option, Some}
use Rattle.std.specs.Prelude.{None, option_map, length, map, slice_get}
use Rattle.std.specs.Option.{option_or}
use Rattle.stateful_base.specs.declared.number.Location.{Location}
use Rattle.stateful_db.specs.declared.batch.BatchError.{BatchError}
use Rattle.stateful_db.specs.declared.batch.BatchError.TheVariants.{LocationOutOfBounds}
use Rattle.stateful_db.specs.declared.batch.BatchError.TheVariants.{LocationOutOfOrder}
use Rattle.stateful_db.specs.declared.batch.BatchError.TheVariants.{BelowInactivityFloor}
use Rattle.stateful_db_compact.specs.declared.op.KeylessOp.{KeylessOp}
use Rattle.stateful_db_compact.specs.declared.op.KeylessOp.TheVariants.{Commit, Append}
use Rattle.stateful_db_compact.specs.Ops.{Changes}
use Rattle.stateful_db_keyless.specs.Keyless.{State, size_of}

-- what is read by location: operations from a floor up to an end
pub record Log (V : Type 0) : Type 0 where
  pub floor : ℕ
  pub end : ℕ
  pub ops : List (KeylessOp V)

module _ {V : Type 0} where
  -- the log of a state
  abbrev pub log_of : State V → Log V
  log_of s = record { floor = s.target.start.0; end = size_of s; ops = s.kept }

  -- with more operations behind it
  abbrev pub log_behind : State V → List (KeylessOp V) → Log V
  log_behind s more =
      record { floor = s.target.start.0; end = size_of s + length more; ops = s.kept ++ more }

  -- what a batch with these changes reads before its seal: the log of its parent, and its values
  -- behind that
  abbrev pub log_over : Changes V → State V → Log V
  log_over ch s = log_behind s (map Append ch.values)

  -- what an operation reads as: an append as its value, and a commit as its metadata
  abbrev pub read_as : Option (KeylessOp V) → Option V
  read_as None = None
  read_as (Some (Commit metadata floor)) = metadata
  read_as (Some (Append value)) = Some value

  -- the value at a location
  abbrev pub value_at : Log V → Location → Option V
  value_at log at = read_as (slice_get log.ops (at.0 - log.floor))

  -- the metadata of a commit
  abbrev pub metadata_in : Option (KeylessOp V) → Option V
  metadata_in None = None
  metadata_in (Some (Commit metadata floor)) = metadata
  metadata_in (Some (Append value)) = None

  -- that of the last operation, which is a commit
  abbrev pub metadata_of : State V → Option V
  metadata_of s = metadata_in (slice_get s.kept (length s.kept - 1))

-- the first location that isn't greater than the one before
abbrev pub out_of_order : List Location → Option Location
out_of_order [] = None
out_of_order (at ∷ []) = None
out_of_order (at ∷ next ∷ later) =
    if nat_lt at.0 next.0 then out_of_order (next ∷ later) else Some next

-- why a location can't be read of a log with this floor and this end: it is at or past the end, or
-- else below the floor
abbrev pub unreadable : ℕ → ℕ → Location → Option BatchError
unreadable floor end at =
    if nat_lt at.0 end then (if nat_lt at.0 floor then Some (BelowInactivityFloor at) else None)
    else Some (LocationOutOfBounds at)

-- why the first one of these can't be read that can't
abbrev pub first_unreadable : ℕ → ℕ → List Location → Option BatchError
first_unreadable floor end [] = None
first_unreadable floor end (at ∷ later) =
    option_or (unreadable floor end at) (first_unreadable floor end later)

-- why locations can't be read: one isn't greater than the one before; or else why the first that
-- can't be read can't
abbrev pub refusal : ℕ → ℕ → List Location → Option BatchError
refusal floor end all =
    option_or (option_map LocationOutOfOrder (out_of_order all)) (first_unreadable floor end all)

-- the same of a log
abbrev pub unread : {V : Type 0} → Log V → List Location → Option BatchError
unread log all = refusal log.floor log.end all
