use Rattle.std.proofs.Common.{◌≡◌, ◌++◌, ℕ, take, map}
use Rattle.stateful_base.specs.Number.{u64_format}
use Rattle.stateful_bank.specs.Op.{amount_of}
use Rattle.stateful_db_compact.specs.Ops.{Changes}
use Rattle.stateful_db_compact.specs.Compacted.{State}
use Rattle.stateful_db_compact.specs.CompactShown.{Holds}
use Rattle.stateful_bank_triple.proofs.compact.append_amounts.Given as goal

-- the amounts so far are appended
abbrev pub invariant-loop-op : goal.invariant-loop-op
invariant-loop-op l =
    ((changes : Changes ℕ) (s : State ℕ) → Holds u64_format.spelling l.initial.batch changes s → Holds u64_format.spelling l.batch (record changes { values = changes.values ++ map amount_of (take l.op-index l.ops) }) s)
    × (l.batch.id ≡ l.initial.batch.id)
    × (l.batch.below ≡ l.initial.batch.below)
