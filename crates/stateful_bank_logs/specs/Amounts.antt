-- Amounts in a keyless database, and what batches append there.
use Rattle.std.specs.Prelude.{◌≡◌, ℕ, List, ◌∷◌, Some, map}
use Rattle.stateful_base.specs.Number.{u64_format}
use Rattle.stateful_base.specs.declared.number.Location.{Location}
use Rattle.stateful_bank.specs.declared.op.Op.{Op}
use Rattle.stateful_bank.specs.Op.{amount_of}
use Rattle.stateful_db_compact.specs.Ops.{Changes}
use Rattle.stateful_db_keyless.specs.Keyless as keyless
use Rattle.stateful_db_keyless.specs.declared.keyless.batch.KeylessUnmerkleized.{KeylessUnmerkleized}
use Rattle.stateful_db_keyless.specs.KeylessShown.{DraftShows}

-- what a batch changes on this state: each operation's amount is appended, and the commit has the
-- height, and the location of the batch's first operation as its floor
abbrev pub appended : keyless.State ℕ → List Op → ℕ → Changes ℕ
appended s ops height =
    record { values = map amount_of ops; metadata = Some height; floor = keyless.size_of s }

-- the state behind it
abbrev pub amounts_after : keyless.State ℕ → List Op → ℕ → keyless.State ℕ
amounts_after s ops height = keyless.sealed u64_format.spelling (appended s ops height) s

-- a batch of this id changes nothing yet, over a chain whose first point is its parent
abbrev pub HoldsNothing : KeylessUnmerkleized ℕ
    → ℕ
    → ℕ × keyless.State ℕ
    → List (ℕ × keyless.State ℕ)
    → Type 0
HoldsNothing u i p c =
    DraftShows u64_format.spelling u ((i, keyless.begun u64_format.spelling p.1) ∷ p ∷ c)

-- the batch of a block of these operations at this height, over that chain, with the location of its
-- first operation
abbrev pub IsCompleted : List Op
    → ℕ
    → ℕ
    → ℕ × keyless.State ℕ
    → List (ℕ × keyless.State ℕ)
    → KeylessUnmerkleized ℕ × Location
    → Type 0
IsCompleted ops height i p c after =
    DraftShows u64_format.spelling after.0 ((i, amounts_after p.1 ops height) ∷ p ∷ c)
    × (after.1.0 ≡ keyless.size_of p.1)
