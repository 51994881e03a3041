use Rattle.std.proofs.Common.{rules, ◌≡◌, refl, take, length, ap, ◌∙◌}
use Rattle.stateful_db_overlay.proofs.Places.{cut_is}
use Rattle.stateful_db_overlay.proofs.layers.Layers.cut.Goals as goal

pub returns : goal.returns
returns g c =
    let whole : c.self.inside.layers.items ≡ c.args.self.now.layers = search (rules, c.self.view_is) in
    let left = c.truncate.ensures.items ∙ ap (λ ls. take (length c.above-count.result.now) ls) whole in
    cut_is c.args.id c.args.self.now c.has.result c.truncate.new.self.items (length c.above-count.result.now) c.above-count.result.now c.has.ensures c.if-not-has.false c.above-count.ensures refl left
