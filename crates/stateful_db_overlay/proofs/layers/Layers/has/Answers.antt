use Rattle.std.proofs.Common.{rules, ◌≡◌, ◌==◌, false, position}
use Rattle.stateful_db_overlay.proofs.Places.{has_place}
use Rattle.stateful_db_overlay.proofs.layers.Layers.has.Goals as goal

pub returns-else-self-id : goal.returns-else-self-id
returns-else-self-id g c =
    let off : (c.args.self.now.base == c.args.id) ≡ false = search (rules, c.if-self-id.false, c.self.view_is) in
    let found : c.place_of.result ≡ position (λ l. l.0 == c.args.id) c.args.self.now.layers = search (rules, c.place_of.ensures, c.as_slice.ensures.value, c.self.view_is) in
    has_place c.args.id c.args.self.now c.is_some.result c.place_of.result off c.is_some.ensures found
