use Rattle.std.proofs.Common.{◌≡◌, ◌++◌, ℕ, List}
use Rattle.sha2.specs.Hashers.{Holds256}
use Rattle.stateful_db_plain.specs.Whole.{entry_bytes}
use Rattle.stateful_db_plain.proofs.state.add_entries.Given as goal

-- each message so far and the entries that are left make one whole
abbrev pub invariant-loop-key : goal.invariant-loop-key
invariant-loop-key l = (m : List ℕ) → Holds256 l.initial.hasher m → (n : List ℕ) × Holds256 l.hasher n × (n ++ entry_bytes l.key-iterator ≡ m ++ entry_bytes l.entries.entries)
