use Rattle.std.proofs.Common.{◌≡◌, ◌==◌, ◌||◌, false, arith, ap, sym, ◌∙◌}
use Rattle.std.proofs.lemmas.Bool.Decides.{nat_tests}
use Rattle.stateful_db_overlay.specs.Stack.{has_layer}
use Rattle.stateful_db_any.specs.Shown.{Draft}
use Rattle.stateful_db_any.proofs.Sealing.{draft_has}
use Rattle.stateful_db_any.proofs.batch.AnyUnmerkleized.stands_on.Goals as goal

pub returns-else-self-at : goal.returns-else-self-at
returns-else-self-at g c = λ chain shown.
    let at = c.args.at in
    let old = c.self.inside in
    let other : (old.id == at) ≡ false = grind (arith, nat_tests, c.if-self-at.false) in
    draft_has g.K.Ord.cmp g.K.Field.fields.spelling g.V.Field.fields.spelling c.args.self.now chain at shown
    ∙ ap (λ (u : Draft g.row.K.Denot g.row.V.Denot). (u.id == at) || has_layer u.below at) (sym c.self.view_is)
    ∙ ap (λ b. b || has_layer old.below at) other
    ∙ sym c.has-inside.ensures
