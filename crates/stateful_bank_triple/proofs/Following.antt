-- The compact database follows the keyless one through blocks.
use Rattle.std.proofs.Common.{◌≡◌, ℕ, List, Option, None, Some, subst}
use Rattle.std.proofs.lemmas.Option.{same_Some}
use Rattle.std.specs.Option.{option_map}
use Rattle.stateful_base.specs.Number.{u64_format}
use Rattle.stateful_bank.specs.declared.op.Op.{Op}
use Rattle.stateful_db_keyless.specs.Follows.{Follows}
use Rattle.stateful_db_keyless.proofs.Following as both
use Rattle.stateful_bank_logs.specs.Balances.{Writes}
use Rattle.stateful_bank_logs.specs.Amounts.{appended}
use Rattle.stateful_bank_app.specs.Rules.{changes_of}
use Rattle.stateful_bank_triple.specs.Triple.{States, triple_rules}
use Rattle.stateful_bank_triple.specs.Following.{KeepsFollowing}

after : (s t : States) (ops : List Op) (height : ℕ) (changes : Option Writes) → option_map (λ writes. triple_rules.sealed s writes ops height) changes ≡ Some t → Follows s.1.0 s.1.1 → Follows t.1.0 t.1.1
after s t ops height None is follows = absurd cc
after s t ops height (Some writes) is follows =
    subst (λ (z : States). Follows z.1.0 z.1.1) (same_Some _ _ is) ((both.keeps_following u64_format.spelling).sealed (appended s.1.0 ops height) s.1.0 s.1.1 follows)

pub keeps_following : KeepsFollowing
keeps_following = record {
  initial = (both.keeps_following u64_format.spelling).initial;
  after_block = λ s t ops height is follows. after s t ops height (changes_of triple_rules s ops) is follows;
}
