use Rattle.std.proofs.Common.{◌≡◌, ◌==◌, ◌||◌, false, arith, ap, sym, ◌∙◌}
use Rattle.std.proofs.lemmas.Bool.Decides.{nat_tests}
use Rattle.stateful_db_overlay.specs.Stack.{has_layer}
use Rattle.stateful_db_keyless.proofs.KeylessChains.{seal_has}
use Rattle.stateful_db_keyless.proofs.keyless.batch.KeylessMerkleized.stands_on.Goals as goal

pub returns-else-id-at : goal.returns-else-id-at
returns-else-id-at g c = λ chain shown.
    let m = c.args.self.now in
    let at = c.args.at in
    let other : (m.layer.0 == at) ≡ false = grind (arith, nat_tests, c.if-id-at.false, c.id.ensures) in
    seal_has m chain at shown ∙ ap (λ b. b || has_layer m.below at) other ∙ sym c.has-inside.ensures
