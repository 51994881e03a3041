use Rattle.std.proofs.Common.{◌≡◌, ◌≤◌, ℕ, List, ap, sym, subst, ◌∙◌}
use Rattle.stateful_db_overlay.specs.Stack.{above_in}
use Rattle.stateful_db_overlay.specs.Chains.{Leads}
use Rattle.stateful_db_compact.specs.declared.op.KeylessOp.{KeylessOp}
use Rattle.stateful_db_keyless.specs.declared.keyless.batch.KeylessChanges.{KeylessChanges}
use Rattle.stateful_db_keyless.specs.Keyless.{State, size_of}
use Rattle.stateful_db_keyless.specs.KeylessShown.{After}
use Rattle.stateful_db_keyless.specs.KeylessStored.{standing_of}
use Rattle.stateful_db_keyless.specs.Reads.{log_of, log_behind, value_at}
use Rattle.stateful_db_keyless.proofs.KeylessChains.{seal_own, seal_read}
use Rattle.stateful_db_keyless.proofs.keyless.batch.KeylessMerkleized.value.Goals as goal

pub returns-then-id-at : goal.returns-then-id-at
returns-then-id-at g c = λ p chain shown point low.
    let V = g.row.V.Denot in
    let m = c.args.self.now in
    let s = (standing_of c.args.db.now).disk.newest in
    let own = seal_own m p chain (standing_of c.args.db.now).id s shown point (sym c.id.ensures ∙ c.if-id-at.true ∙ c.id-at.ensures) in
    let Low : State V → Type 0 = λ x. x.target.start.0 ≤ c.args.location.0 in
    c.in_ok-value.ensures (subst Low (sym own) low) ∙ ap (λ (x : State V). value_at (log_of x) c.args.location) own

pub returns : goal.returns
returns g c = λ p chain shown point low.
    let V = g.row.V.Denot in
    let m = c.args.self.now in
    let n = (standing_of c.args.db.now).id in
    let s = (standing_of c.args.db.now).disk.newest in
    let layers : c.above-layers.result.now ≡ above_in n m.below = c.above-layers.ensures ∙ ap (λ i. above_in i m.below) c.id-at.ensures in
    seal_read m p chain n s c.args.location c.in_ok-value-2.value shown point (λ e. c.if-id-at.false (c.id.ensures ∙ e ∙ sym c.id-at.ensures)) low
    (λ t leads from first.
    let Led : List (ℕ × KeylessChanges V) → Type 0 = λ ls. Leads After ls s t in
    let ops : c.as_slice.result.now ≡ m.layer.1.ops.items = c.as_slice.ensures.value ∙ ap (λ (ch : KeylessChanges V). ch.ops.items) c.changes-own.ensures in
    let at : c.changes-own.result.now.from ≡ size_of t = ap (λ (ch : KeylessChanges V). ch.from) c.changes-own.ensures ∙ from in
    c.in_ok-value-2.ensures t (subst Led (sym layers) leads) at first
    ∙ ap (λ (xs : List (KeylessOp V)). value_at (log_behind t xs) c.args.location) ops)
