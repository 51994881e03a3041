use Rattle.std.proofs.Common.{refl, ◌∙◌}
use Rattle.std.proofs.lemmas.List.{take_all, append-nil}
use Rattle.std.proofs.lemmas.Option.{slice_get-get_or}
use Rattle.stateful_bank_logs.proofs.Appending.{more_amounts}
use Rattle.stateful_bank_triple.proofs.compact.append_amounts.Goals as goal

pub loop-op-init : goal.loop-op-init
loop-op-init c = (λ changes s holds. rw append-nil holds, refl, refl)

pub loop-op-preserved : goal.loop-op-preserved
loop-op-preserved c =
    let ops = c.args.ops.now in
    let i = c.loop-op.op-index in
    let there = slice_get-get_or ops i _ c.loop-op-test.true in (
      λ changes s holds. rw (← more_amounts changes.values ops i _ _ there c.amount.ensures) (c.in_ok-batch.ensures.changes _ s (c.loop-op.invariant.0 changes s holds)),
      c.in_ok-batch.ensures.chain ∙ c.loop-op.invariant.1,
      c.in_ok-batch.ensures.below ∙ c.loop-op.invariant.2,
    )

pub returns-clause-changes : goal.returns-clause-changes
returns-clause-changes c = λ changes s holds.
    rw (← take_all c.loop-op.op-index c.args.ops.now c.loop-op-test.false) (c.loop-op.invariant.0 changes s holds)
