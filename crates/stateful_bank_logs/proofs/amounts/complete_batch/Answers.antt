use Rattle.std.proofs.Common.{◌++◌, map, Some, subst, ◌∙◌}
use Rattle.stateful_base.specs.Number.{u64_format}
use Rattle.stateful_bank.specs.Op.{amount_of}
use Rattle.stateful_db_keyless.specs.KeylessShown.{Holds}
use Rattle.stateful_bank_logs.proofs.Appending.{changes, held, completed}
use Rattle.stateful_bank_logs.proofs.amounts.complete_batch.Goals as goal

pub returns : goal.returns
returns c = λ i p chain holds.
    let u = c.args.batch in
    let first_is = c.first_location-first.ensures (changes u i p chain holds) p.1 (held u i p chain holds) in
    let appended = c.in_ok-batch.ensures.changes (changes u i p chain holds) p.1 (held u i p chain holds) in
    let floored = c.with_inactivity_floor-batch.ensures.changes _ p.1 appended in
    let now = c.with_metadata.ensures.changes _ p.1 floored in
    let shown =
    completed u i p chain holds c.with_metadata.result c.args.ops.now c.args.height.0
    (c.with_metadata.ensures.chain ∙ c.with_inactivity_floor-batch.ensures.chain ∙ c.in_ok-batch.ensures.chain)
    (c.with_metadata.ensures.below ∙ c.with_inactivity_floor-batch.ensures.below ∙ c.in_ok-batch.ensures.below)
    (subst (λ floor. Holds u64_format.spelling c.with_metadata.result (record { values = (changes u i p chain holds).values ++ map amount_of c.args.ops.now; metadata = Some c.args.height.0; floor = floor }) p.1) first_is now) in
    (shown, first_is)
