use Rattle.std.proofs.Common.{◌≡◌, ◌==◌, ◌||◌, false, arith, ap, sym, ◌∙◌}
use Rattle.std.proofs.lemmas.Bool.Decides.{nat_tests}
use Rattle.stateful_db_overlay.specs.Stack.{has_layer}
use Rattle.stateful_db_any.specs.Shown.{Seal}
use Rattle.stateful_db_any.proofs.Sealing.{seal_has}
use Rattle.stateful_db_any.proofs.batch.AnyMerkleized.stands_on.Goals as goal

pub returns-else-id-at : goal.returns-else-id-at
returns-else-id-at g c = λ chain shown.
    let at = c.args.at in
    let old = c.self.inside in
    let other : (old.layer.0 == at) ≡ false = grind (arith, nat_tests, c.if-id-at.false, c.id.ensures) in
    seal_has g.K.Ord.cmp g.K.Field.fields.spelling g.V.Field.fields.spelling c.args.self.now chain at shown
    ∙ ap (λ (m : Seal g.row.K.Denot g.row.V.Denot). (m.layer.0 == at) || has_layer m.below at) (sym c.self.view_is)
    ∙ ap (λ b. b || has_layer old.below at) other
    ∙ sym c.has-inside.ensures
