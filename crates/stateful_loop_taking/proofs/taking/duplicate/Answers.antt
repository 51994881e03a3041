use Rattle.std.proofs.Common.{◌≤◌, ◌<◌, arith}
use Rattle.stateful_exec_model.specs.Workings.{workings}
use Rattle.stateful_loop_model.proofs.Takes.{acknowledged_again, held_again}
use Rattle.stateful_loop_model.specs.Moments.{executing}
use Rattle.stateful_loop_taking.proofs.taking.duplicate.Goals as goal

pub returns-in_ok-push-clause-ok : goal.returns-in_ok-push-clause-ok
returns-in_ok-push-clause-ok g c = λ stored.
    let w = workings g.A.Block.Block.header g.A.Block.Block.context_of g.A.Context.Rounded.round_of g.A.Application.works g.A.Databases.DatabaseSet.kind g.A.Databases.DatabaseSet.shows in
    acknowledged_again w stored (executing c.args.handler.now) c.args.processing.now (g.A.Databases.DatabaseSet.members c.args.databases.now)
    (g.A.Databases.DatabaseSet.next c.args.databases.now) c.args.marks.now.items c.args.ticket c.args.block.now c.requires.past c.height-height.result c.height-height.ensures
    _ (c.covers.ensures.covered.0 c.if-covers.true) c.in_ok-push.ensures.items

pub returns-in_ok-record_duplicate-clause-ok : goal.returns-in_ok-record_duplicate-clause-ok
returns-in_ok-record_duplicate-clause-ok g c = λ stored.
    let w = workings g.A.Block.Block.header g.A.Block.Block.context_of g.A.Context.Rounded.round_of g.A.Application.works g.A.Databases.DatabaseSet.kind g.A.Databases.DatabaseSet.shows in
    let above : c.args.processing.now.durability.durable < c.height-height.result.0 =
    let other : c.height-height.result.0 ≤ c.args.processing.now.durability.durable → ⊥ = λ low. let k = c.if-covers.ensures.covered.1 low in cc in omega arith in
    held_again w stored (executing c.args.handler.now) c.args.processing.now (g.A.Databases.DatabaseSet.members c.args.databases.now)
    (g.A.Databases.DatabaseSet.next c.args.databases.now) c.args.marks.now.items c.args.ticket c.args.block.now c.requires.past c.height-height.result c.height-height.ensures
    c.record_duplicate.new.self above c.in_ok-record_duplicate.ensures.held
