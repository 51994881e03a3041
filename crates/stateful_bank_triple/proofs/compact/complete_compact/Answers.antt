use Rattle.std.proofs.Common.{◌∙◌}
use Rattle.stateful_bank_triple.proofs.Compacting.{changes, held, completed}
use Rattle.stateful_bank_triple.proofs.compact.complete_compact.Goals as goal

pub returns : goal.returns
returns c = λ i p chain holds.
    let u = c.args.batch in
    let appended = c.in_ok-batch.ensures.changes (changes u i p chain holds) p.1 (held u i p chain holds) in
    let floored = c.with_inactivity_floor-batch.ensures.changes _ p.1 appended in
    let now = c.with_metadata.ensures.changes _ p.1 floored in
    completed u i p chain holds c.with_metadata.result c.args.ops.now c.args.floor.0 c.args.height.0
    (c.with_metadata.ensures.chain ∙ c.with_inactivity_floor-batch.ensures.chain ∙ c.in_ok-batch.ensures.chain)
    (c.with_metadata.ensures.below ∙ c.with_inactivity_floor-batch.ensures.below ∙ c.in_ok-batch.ensures.below)
    now
