use Rattle.std.proofs.Common.{◌≡◌, ℕ, List, ap, sym, subst, ◌∙◌}
use Rattle.stateful_db_overlay.specs.Stack.{above_in}
use Rattle.stateful_db_overlay.specs.Chains.{Leads}
use Rattle.stateful_db_compact.specs.declared.op.KeylessOp.{KeylessOp}
use Rattle.stateful_db_keyless.specs.declared.keyless.batch.KeylessChanges.{KeylessChanges}
use Rattle.stateful_db_keyless.specs.KeylessShown.{After}
use Rattle.stateful_db_keyless.specs.KeylessStored.{standing_of}
use Rattle.stateful_db_keyless.specs.Reads.{log_behind, value_at}
use Rattle.stateful_db_keyless.proofs.KeylessChains.{draft_read}
use Rattle.stateful_db_keyless.proofs.keyless.batch.KeylessUnmerkleized.value.Goals as goal

pub returns : goal.returns
returns g c = λ p q chain ch shown holds point low.
    let V = g.row.V.Denot in
    let u = c.args.self.now in
    let n = (standing_of c.args.db.now).id in
    let s = (standing_of c.args.db.now).disk.newest in
    let layers : c.above.result.now ≡ above_in n u.below = c.above.ensures ∙ ap (λ i. above_in i u.below) c.id-at.ensures in
    draft_read g.V.Field.fields.spelling u p q chain ch n s c.args.location c.in_ok-value.value shown holds point (λ e. c.if-self-at.false (e ∙ sym c.id-at.ensures)) low
    (λ t leads from first.
    let Led : List (ℕ × KeylessChanges V) → Type 0 = λ ls. Leads After ls s t in
    c.in_ok-value.ensures t (subst Led (sym layers) leads) from first
    ∙ ap (λ (xs : List (KeylessOp V)). value_at (log_behind t xs) c.args.location) c.as_slice-own.ensures.value)
