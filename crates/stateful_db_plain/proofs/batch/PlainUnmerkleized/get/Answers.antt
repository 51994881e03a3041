use Rattle.std.proofs.Common.{◌≡◌, ◌∷◌, None, sym, ap, ◌∙◌}
use Rattle.std.specs.Ordering.{nat_cmp}
use Rattle.std.specs.BTreeMap.{is_at}
use Rattle.std.specs.Map.{lookup}
use Rattle.std.specs.Option.{option_copied, unwrap_or}
use Rattle.stateful_db_plain.specs.Whole.{value_at}
use Rattle.stateful_db_plain.specs.Writes.{value_through}
use Rattle.stateful_db_plain.proofs.Showing.{draft_value}
use Rattle.stateful_db_plain.proofs.batch.PlainUnmerkleized.get.Goals as goal

pub returns-in-None-clause-value : goal.returns-in-None-clause-value
returns-in-None-clause-value c = λ p chain shown.
    let u = c.args.self.now in
    let key = c.args.key in
    let below = value_through u.below.layers key (value_at u.base.entries key) in
    let none : lookup (is_at (nat_cmp key)) u.writes.entries ≡ None = sym c.get.ensures.value ∙ ap option_copied c.in-None.is in
    c.value_in.ensures
    ∙ ap (λ ls. value_through ls key (value_at c.entries.result.now.entries key)) (c.layers.ensures.all (p ∷ chain) shown)
    ∙ ap (λ es. value_through u.below.layers key (value_at es key)) c.entries.ensures
    ∙ sym (draft_value u p chain key shown ∙ ap (λ o. unwrap_or o below) none)
