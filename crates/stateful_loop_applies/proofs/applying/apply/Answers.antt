use Rattle.std.proofs.Common.{rules, Err, ap, inr}
use Rattle.stateful_exec_model.specs.Workings.{workings}
use Rattle.stateful_loop_model.specs.Errors.{error_of_set}
use Rattle.stateful_loop_model.specs.Moments.{executing}
use Rattle.stateful_loop_model.proofs.Handing.{converted, err_holds}
use Rattle.stateful_loop_model.proofs.Leaving.{left_applied, left_applying}
use Rattle.stateful_loop_model.proofs.Finalizations.{fault_applying, applies_block}
use Rattle.stateful_loop_model.proofs.NotesFollowing.{not_by_memory}
use Rattle.stateful_loop_applies.proofs.applying.apply.Goals as goal

pub returns-in_err-apply-clause-fault : goal.returns-in_err-apply-clause-fault
returns-in_err-apply-clause-fault g c =
    let d = g.A.Databases.DatabaseSet.kind in
    let before = g.A.Databases.DatabaseSet.counted c.args.databases.now in
    let now = g.A.Databases.DatabaseSet.counted c.apply.new.self in
    let new = g.A.Databases.DatabaseSet.members c.apply.new.self in
    let old = g.A.Databases.DatabaseSet.members c.args.databases.now in
    let e = c.in_err-apply.field-0.0 in
    let failed = c.in_err-apply.ensures in
    converted _ c.from_residual-in_err-apply.result (error_of_set e) c.from_residual-in_err-apply.ensures.1
    (inr (inr (fault_applying d before now old new e (λ is. failed.lost.0 (ap Err is)) (λ is. failed.exhausted (ap Err is))
    (λ n k is bound. let f = failed.fault n k (ap Err is) bound in (f.0, f.1, f.2, f.3)))))

pub returns-clause-ok : goal.returns-clause-ok
returns-clause-ok g c =
    let w = workings g.A.Block.Block.header g.A.Block.Block.context_of g.A.Context.Rounded.round_of g.A.Application.works g.A.Databases.DatabaseSet.kind g.A.Databases.DatabaseSet.shows in
    let o = c.in_ok-apply.ensures in
    applies_block w c.args.front (executing c.args.handler.now) (executing c.advance.new.self) c.args.processing.now c.applied.new.self c.height.result
    (g.A.Databases.DatabaseSet.members c.args.databases.now) (g.A.Databases.DatabaseSet.members c.apply.new.self)
    (g.A.Databases.DatabaseSet.next c.args.databases.now) (g.A.Databases.DatabaseSet.next c.apply.new.self) c.args.marks.now.items c.push.new.self.items
    c.in_ok-batch.batch c.in_ok-batch.captured c.in_ok-batch.ensures.ok c.in_ok-batch.ensures.build o.ok o.here o.tokens o.next
    c.height.ensures c.applied.ensures.applied c.applied.ensures.no_receipt_yet (search rules)

pub returns-in_err-share-clause-left : goal.returns-in_err-share-clause-left
returns-in_err-share-clause-left g c =
    let w = workings g.A.Block.Block.header g.A.Block.Block.context_of g.A.Context.Rounded.round_of g.A.Application.works g.A.Databases.DatabaseSet.kind g.A.Databases.DatabaseSet.shows in
    err_holds c.from_residual-in_err-share.result
    (inr (left_applied w g.met.A.Databases.DatabaseSet.laws c.args.front.block (executing c.args.handler.now) (executing c.advance.new.self)
    (g.A.Databases.DatabaseSet.members c.args.databases.now) (g.A.Databases.DatabaseSet.members c.apply.new.self)
    c.in_ok-batch.batch c.in_ok-batch.captured c.in_ok-batch.ensures.ok c.in_ok-apply.ensures.ok))

pub returns-in_err-push-clause-left : goal.returns-in_err-push-clause-left
returns-in_err-push-clause-left g c =
    let w = workings g.A.Block.Block.header g.A.Block.Block.context_of g.A.Context.Rounded.round_of g.A.Application.works g.A.Databases.DatabaseSet.kind g.A.Databases.DatabaseSet.shows in
    err_holds c.from_residual-in_err-push.result
    (inr (left_applied w g.met.A.Databases.DatabaseSet.laws c.args.front.block (executing c.args.handler.now) (executing c.advance.new.self)
    (g.A.Databases.DatabaseSet.members c.args.databases.now) (g.A.Databases.DatabaseSet.members c.apply.new.self)
    c.in_ok-batch.batch c.in_ok-batch.captured c.in_ok-batch.ensures.ok c.in_ok-apply.ensures.ok))

pub returns-in_err-apply-clause-left : goal.returns-in_err-apply-clause-left
returns-in_err-apply-clause-left g c =
    let w = workings g.A.Block.Block.header g.A.Block.Block.context_of g.A.Context.Rounded.round_of g.A.Application.works g.A.Databases.DatabaseSet.kind g.A.Databases.DatabaseSet.shows in
    let failed = c.in_err-apply.ensures in
    err_holds c.from_residual-in_err-apply.result
    (inr (left_applying w g.met.A.Databases.DatabaseSet.laws c.args.front.block (executing c.args.handler.now) (executing c.advance.new.self)
    (g.A.Databases.DatabaseSet.members c.args.databases.now) (g.A.Databases.DatabaseSet.members c.apply.new.self)
    c.in_ok-batch.batch c.in_ok-batch.captured c.in_ok-batch.ensures.ok c.in_err-apply.field-0.0 failed.err
    (λ is. failed.unchanged (ap Err is)) (λ is. failed.exhausted (ap Err is))
    (λ n k is few. (failed.fault n k (ap Err is) few).4) (λ is. failed.memory (ap Err is))))

pub returns-in_err-batch-clause-notes : goal.returns-in_err-batch-clause-notes
returns-in_err-batch-clause-notes g c =
    λ other. c.in_err-batch.ensures.notes (not_by_memory c.from_residual.result other c.in_err-batch.field-0.0 c.from_residual.ensures.1)
