use Rattle.std.proofs.Common.{◌∷◌, ap, refl, sym, subst, ◌∙◌, rules}
use Rattle.stateful_db_overlay.specs.Stack.{Stack}
use Rattle.stateful_db_overlay.specs.Chains.{Stands}
use Rattle.stateful_db_keyless.specs.declared.keyless.batch.KeylessChanges.{KeylessChanges}
use Rattle.stateful_db_keyless.specs.KeylessShown.{After}
use Rattle.stateful_db_keyless.proofs.KeylessChains.{begins, seal_target}
use Rattle.stateful_db_keyless.proofs.keyless.batch.KeylessMerkleizedMerkleized.new_batch.Goals as goal

pub returns : goal.returns
returns g c = λ p chain shown less.
    let m = c.args.self.now in
    let target = c.target-target.ensures ∙ seal_target g.V.Field.fields.spelling m p chain shown in
    let P : Stack (KeylessChanges g.row.V.Denot) → Type 0 = λ b. Stands After b.base b.layers (p ∷ chain) in
    begins g.V.Field.fields.spelling _ c.args.id p chain refl (subst P (sym c.in_ok-with.ensures) shown) (ap (λ t. t.end.0) target) (ap (λ t. t.start.0) target) (search (rules, c.new.ensures)) (ap (λ t. t.root) target) refl refl less
