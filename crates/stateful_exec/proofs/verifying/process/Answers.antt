use Rattle.std.proofs.Common.{refl}
use Rattle.stateful_exec_model.specs.Workings.{workings}
use Rattle.stateful_exec_model.specs.Moments.{moment}
use Rattle.stateful_exec_model.specs.Verifying.{no_next}
use Rattle.stateful_exec_model.proofs.Joining.{at_known, at_live, at_missed, at_started, at_refused, unless_memory}
use Rattle.stateful_exec.proofs.verifying.process.Goals as goal

pub returns-in_default-clause-ok : goal.returns-in_default-clause-ok
returns-in_default-clause-ok g c = no_next c.in_default.ensures.none (rw c.in_default.ensures.same refl)

pub returns-in_ok-park-in-Known-clause-ok : goal.returns-in_ok-park-in-Known-clause-ok
returns-in_ok-park-in-Known-clause-ok g c =
    let w = workings g.A.Block.Block.header g.A.Block.Block.context_of g.A.Context.Rounded.round_of g.A.Application.works g.A.Databases.DatabaseSet.kind g.A.Databases.DatabaseSet.shows in
    let members = g.A.Databases.DatabaseSet.members c.args.databases.now in
    let next = g.A.Databases.DatabaseSet.next c.args.databases.now in
    let joins = rw (c.in-Known.is, c.in-Some.ensures.rest) at c.in_ok-join_next.ensures.joins in
    at_known w members members next next c.args.tables.now c.park.new.self c.args.marks.now.items _ c.args.ticket c.in-Some.request c.in-Some.path c.join_next.new.path c.in-Some.ensures.parked c.in_ok-join_next.ensures.passed
    joins (rw c.in-Some.ensures.rest at c.in_ok-park-in-Known.ensures.ok) refl

pub returns-in_ok-conclude-in-Missed-clause-ok : goal.returns-in_ok-conclude-in-Missed-clause-ok
returns-in_ok-conclude-in-Missed-clause-ok g c =
    let w = workings g.A.Block.Block.header g.A.Block.Block.context_of g.A.Context.Rounded.round_of g.A.Application.works g.A.Databases.DatabaseSet.kind g.A.Databases.DatabaseSet.shows in
    let members = g.A.Databases.DatabaseSet.members c.args.databases.now in
    let next = g.A.Databases.DatabaseSet.next c.args.databases.now in
    let joins = rw (c.in-Missed.is, c.in-Some.ensures.rest) at c.in_ok-join_next.ensures.joins in
    at_missed w members members next next c.args.tables.now c.conclude.new.self c.args.marks.now.items _ c.args.ticket c.in-Some.request c.in-Some.path c.join_next.new.path c.in-Some.ensures.parked c.in_ok-join_next.ensures.passed
    joins (rw c.in-Some.ensures.rest at c.in_ok-conclude-in-Missed.ensures.state) c.in_ok-conclude-in-Missed.ensures.marks

pub returns-in_ok-execute-in-Run-clause-ok : goal.returns-in_ok-execute-in-Run-clause-ok
returns-in_ok-execute-in-Run-clause-ok g c =
    let w = workings g.A.Block.Block.header g.A.Block.Block.context_of g.A.Context.Rounded.round_of g.A.Application.works g.A.Databases.DatabaseSet.kind g.A.Databases.DatabaseSet.shows in
    let members = g.A.Databases.DatabaseSet.members c.args.databases.now in
    let next = g.A.Databases.DatabaseSet.next c.args.databases.now in
    let joins = rw (c.in-Run.is, c.in-Some.ensures.rest) at c.in_ok-join_next.ensures.joins in
    at_live w members members next next c.args.tables.now c.execute.new.self c.args.marks.now.items _ c.args.ticket c.in-Some.request c.in-Some.path c.join_next.new.path c.in-Some.ensures.parked c.in_ok-join_next.ensures.passed
    c.in-Run.job joins (rw c.in-Some.ensures.rest at c.in_ok-execute-in-Run.ensures.ok) refl

pub returns-in_ok-execute-in-Unrun-clause-ok : goal.returns-in_ok-execute-in-Unrun-clause-ok
returns-in_ok-execute-in-Unrun-clause-ok g c =
    let w = workings g.A.Block.Block.header g.A.Block.Block.context_of g.A.Context.Rounded.round_of g.A.Application.works g.A.Databases.DatabaseSet.kind g.A.Databases.DatabaseSet.shows in
    let members = g.A.Databases.DatabaseSet.members c.args.databases.now in
    let next = g.A.Databases.DatabaseSet.next c.args.databases.now in
    let joins = rw (c.in-Unrun.is, c.in-Some.ensures.rest) at c.in_ok-join_next.ensures.joins in
    at_started w members _ next _ c.args.tables.now c.execute-in-Unrun.new.self c.args.marks.now.items _ c.args.ticket c.in-Some.request c.in-Some.path c.join_next.new.path c.in-Some.ensures.parked c.in_ok-join_next.ensures.passed
    c.launch.new.tables c.in-Unrun.block c.in-Unrun.parent c.in_ok-job-in-Unrun.job joins
    (rw c.in-Some.ensures.rest at c.in_ok-job-in-Unrun.ensures.starts) (rw c.in-Some.ensures.rest at c.in_ok-job-in-Unrun.ensures.job) c.in_ok-execute-in-Unrun.ensures.ok
    (rw c.in-Some.ensures.rest at c.in_ok-job-in-Unrun.ensures.marks) c.in_ok-job-in-Unrun.ensures.members

pub returns-in_err-job-in-Unrun-clause-fault : goal.returns-in_err-job-in-Unrun-clause-fault
returns-in_err-job-in-Unrun-clause-fault g c =
    let w = workings g.A.Block.Block.header g.A.Block.Block.context_of g.A.Context.Rounded.round_of g.A.Application.works g.A.Databases.DatabaseSet.kind g.A.Databases.DatabaseSet.shows in
    let members = g.A.Databases.DatabaseSet.members c.args.databases.now in
    let next = g.A.Databases.DatabaseSet.next c.args.databases.now in
    let m = moment w c.args.tables.now members next c.args.marks.now.items in
    let joins = rw (c.in-Unrun.is, c.in-Some.ensures.rest) at c.in_ok-join_next.ensures.joins in
    at_refused w m c.args.ticket c.in-Some.request c.in-Some.path c.join_next.new.path c.in-Some.ensures.parked c.in_ok-join_next.ensures.passed _
    c.from_residual-in_err-job-in-Unrun.result c.in_err-job-in-Unrun.field-0.0 c.from_residual-in_err-job-in-Unrun.ensures.1 c.in-Unrun.block c.in-Unrun.parent joins
    (rw c.in-Some.ensures.rest at c.in_err-job-in-Unrun.ensures.fault)

pub returns-in_err-job-in-Unrun-clause-notes : goal.returns-in_err-job-in-Unrun-clause-notes
returns-in_err-job-in-Unrun-clause-notes g c =
    unless_memory c.from_residual-in_err-job-in-Unrun.result c.launch.result c.in_err-job-in-Unrun.field-0.0 c.from_residual-in_err-job-in-Unrun.ensures.1 c.in_err-job-in-Unrun.was c.launch.ensures.notes
