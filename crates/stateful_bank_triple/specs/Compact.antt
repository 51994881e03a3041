-- What batches of a compact database append.
use Rattle.std.specs.Prelude.{ℕ, List, ◌∷◌}
use Rattle.stateful_base.specs.Number.{u64_format}
use Rattle.stateful_bank.specs.declared.op.Op.{Op}
use Rattle.stateful_db_keyless.specs.Keyless as keyless
use Rattle.stateful_db_compact.specs.Compacted as compact
use Rattle.stateful_db_compact.specs.CompactShown.{DraftShows}
use Rattle.stateful_db_compact.specs.declared.compact.batch.KeylessUnjournaledUnmerkleized.{KeylessUnjournaledUnmerkleized}
use Rattle.stateful_bank_logs.specs.Amounts.{appended}

-- the state after a block that changes the same on this keyless log
abbrev pub compact_after : keyless.State ℕ → compact.State ℕ → List Op → ℕ → compact.State ℕ
compact_after s t ops height = compact.sealed u64_format.spelling (appended s ops height) t

-- a batch of this id changes nothing yet, over a chain whose first point is its parent
abbrev pub HoldsNothing : KeylessUnjournaledUnmerkleized ℕ
    → ℕ
    → ℕ × compact.State ℕ
    → List (ℕ × compact.State ℕ)
    → Type 0
HoldsNothing u i p c =
    DraftShows u64_format.spelling u ((i, compact.begun u64_format.spelling p.1) ∷ p ∷ c)
