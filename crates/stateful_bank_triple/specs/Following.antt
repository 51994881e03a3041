-- The compact database of the triple beside the keyless one.
use Rattle.std.specs.Prelude.{◌≡◌, ℕ, List, Some}
use Rattle.stateful_base.specs.Number.{u64_format}
use Rattle.stateful_bank.specs.declared.op.Op.{Op}
use Rattle.stateful_db_keyless.specs.Keyless as keyless
use Rattle.stateful_db_compact.specs.Compacted as compact
use Rattle.stateful_db_keyless.specs.Follows.{Follows}
use Rattle.stateful_bank_app.specs.Rules.{stepped}
use Rattle.stateful_bank_triple.specs.Triple.{States, triple_rules}

-- it has the root, the size and the floor of the keyless one where both are empty, and after a block
-- on states where it has
pub record KeepsFollowing : Type 0 where
  pub initial : Follows (keyless.initial u64_format.spelling) (compact.initial u64_format.spelling)
  pub after_block : (s t : States) (ops : List Op) (height : ℕ)
      → stepped triple_rules s ops height ≡ Some t
      → Follows s.1.0 s.1.1
      → Follows t.1.0 t.1.1
