use Rattle.std.proofs.Common.{[], ◌∷◌, append_assoc, ap, ◌∙◌}
use Rattle.sha2.specs.Sha256.{sha256}
use Rattle.stateful_db_compact.proofs.op.link_append.Goals as goal

pub returns : goal.returns
returns g c =
    let value = g.V.Field.fields.spelling c.args.value.now in
    let held = c.add_to.ensures _ (c.update-2.ensures _ (c.update.ensures [] c.new-hasher.ensures)) in
    ap (λ bytes. record { 0 = bytes }) (c.finalize.ensures _ held ∙ ap sha256 (append_assoc c.args.before.0 (1 ∷ []) value))
