use Rattle.std.proofs.Common.{[], ◌∷◌, ◌++◌, append_assoc, ap, ◌∙◌}
use Rattle.sha2.specs.Sha256.{sha256}
use Rattle.stateful_db_compact.specs.Ops.{metadata_bytes}
use Rattle.stateful_db_compact.proofs.op.link_commit.Goals as goal

pub returns : goal.returns
returns g c =
    let before = c.args.before.0 in
    let metadata = metadata_bytes g.V.Field.fields.spelling c.args.metadata.now in
    let floor = c.to_be_bytes.result in
    let held = c.update-3.ensures _ (c.add_metadata.ensures _ (c.update-2.ensures _ (c.update.ensures [] c.new-hasher.ensures))) in
    let same = append_assoc (before ++ 0 ∷ []) metadata floor ∙ append_assoc before (0 ∷ []) (metadata ++ floor)
    ∙ ap (λ bytes. before ++ (0 ∷ (metadata ++ bytes))) c.to_be_bytes.ensures in
    ap (λ bytes. record { 0 = bytes }) (c.finalize.ensures _ held ∙ ap sha256 same)
