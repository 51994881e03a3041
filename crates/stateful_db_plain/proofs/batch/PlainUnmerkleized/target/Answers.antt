use Rattle.std.proofs.Common.{◌≡◌, ◌+◌, ◌∷◌, refl, sym, ap, ◌∙◌}
use Rattle.stateful_base.specs.declared.target.Target.{Target}
use Rattle.stateful_db_overlay.specs.Stack.{above_in}
use Rattle.stateful_db_plain.specs.Whole.{Whole, target_of}
use Rattle.stateful_db_plain.specs.Writes.{Makes}
use Rattle.stateful_db_plain.proofs.Showing.{draft_state, makes_from, makes_one}
use Rattle.stateful_db_plain.proofs.batch.PlainUnmerkleized.target.Goals as goal

pub returns-clause-shown : goal.returns-clause-shown
returns-clause-shown c = λ p chain shown.
    let u = c.args.self.now in
    let sealed : Whole = record { size = u.size + 1; entries = c.in_ok-entries.entries.entries } in
    let makes : Makes u.writes.entries u.below.layers u.base sealed =
    makes_from u.writes.entries u.writes.entries c.layers.result.now u.below.layers c.entries.result.now.entries sealed.entries u.base sealed refl (c.layers.ensures.all (p ∷ chain) shown) c.entries.ensures refl
    c.in_ok-entries.ensures.ordered c.in_ok-entries.ensures.values in
    let same : c.new.result ≡ p.1 = c.new.ensures ∙ draft_state u p chain sealed shown refl makes.ordered makes.values in
    c.target-2.ensures ∙ ap target_of same

pub returns-clause-roots : goal.returns-clause-roots
returns-clause-roots c = λ t size made.
    let u = c.args.self.now in
    let below = above_in u.id u.below in
    let sealed : Whole = record { size = u.size + 1; entries = c.in_ok-entries.entries.entries } in
    let target = c.target-2.ensures ∙ ap target_of c.new.ensures in
    let makes : Makes u.writes.entries below u.base sealed =
    makes_from u.writes.entries u.writes.entries c.layers.result.now below c.entries.result.now.entries sealed.entries u.base sealed refl c.layers.ensures.above c.entries.ensures refl
    c.in_ok-entries.ensures.ordered c.in_ok-entries.ensures.values in
    let sizes : sealed.size ≡ t.size = sym (size ∙ ap (λ (g : Target). g.end.0) target) in
    target ∙ ap target_of (makes_one u.writes.entries below u.base sealed t sizes makes made)
