use Rattle.std.proofs.Common.{rules, ◌≡◌, ◌==◌, false, Some, None, position, sym, ◌∙◌, ap, take}
use Rattle.stateful_db_overlay.proofs.Places.{above_place, above_none, above_layers}
use Rattle.stateful_db_overlay.proofs.layers.Layers.above.Goals as goal

pub returns-in-Some : goal.returns-in-Some
returns-in-Some g c =
    let layers = c.args.self.now.layers in
    let off : (c.args.self.now.base == c.args.id) ≡ false = search (rules, c.if-self-id.false, c.self.view_is) in
    let found : position (λ l. l.0 == c.args.id) layers ≡ Some c.in-Some.place = search (rules, c.place_of.ensures, c.in-Some.is, c.as_slice-2.ensures.value, c.self.view_is) in
    let whole : c.deref.result.now ≡ layers = search (rules, c.deref.ensures.value, c.self.view_is) in
    above_layers c.args.id c.args.self.now _ off
    (ap (λ ls. take c.in-Some.place ls) whole ∙ sym (above_place c.args.id layers c.in-Some.place found))

pub returns-in-None : goal.returns-in-None
returns-in-None g c =
    let layers = c.args.self.now.layers in
    let off : (c.args.self.now.base == c.args.id) ≡ false = search (rules, c.if-self-id.false, c.self.view_is) in
    let none : position (λ l. l.0 == c.args.id) layers ≡ None = search (rules, c.place_of.ensures, c.in-None.is, c.as_slice-2.ensures.value, c.self.view_is) in
    let whole : c.as_slice-in-None.result.now ≡ layers = search (rules, c.as_slice-in-None.ensures.value, c.self.view_is) in
    above_layers c.args.id c.args.self.now _ off (whole ∙ sym (above_none c.args.id layers none))
