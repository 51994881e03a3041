use Rattle.std.proofs.Common.{◌≡◌, ◌==◌, ◌||◌, false, arith, ap, sym, ◌∙◌}
use Rattle.std.proofs.lemmas.Bool.Decides.{nat_tests}
use Rattle.stateful_db_overlay.specs.Stack.{has_layer}
use Rattle.stateful_db_plain.proofs.Showing.{draft_has}
use Rattle.stateful_db_plain.proofs.batch.PlainUnmerkleized.stands_on.Goals as goal

pub returns-else-self-at : goal.returns-else-self-at
returns-else-self-at c = λ chain shown.
    let u = c.args.self.now in
    let at = c.args.at in
    let other : (u.id == at) ≡ false = grind (arith, nat_tests, c.if-self-at.false) in
    draft_has u chain at shown ∙ ap (λ b. b || has_layer u.below at) other ∙ sym c.has-inside.ensures
