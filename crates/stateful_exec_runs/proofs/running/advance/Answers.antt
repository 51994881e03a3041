use Rattle.std.proofs.Common.{refl}
use Rattle.stateful_exec_model.specs.Workings.{workings}
use Rattle.stateful_exec_model.proofs.Advancing.{at_end, at_stop, at_run, at_unrun, refused_start}
use Rattle.stateful_exec_runs.proofs.running.advance.Goals as goal

pub returns-in_ok-conclude-in-Arrived-clause-ok : goal.returns-in_ok-conclude-in-Arrived-clause-ok
returns-in_ok-conclude-in-Arrived-clause-ok g c =
    let skips = rw c.in-Arrived.is at c.in_ok-skip.ensures.skips in
    at_end (workings g.A.Block.Block.header g.A.Block.Block.context_of g.A.Context.Rounded.round_of g.A.Application.works g.A.Databases.DatabaseSet.kind g.A.Databases.DatabaseSet.shows)
    _ _ _ _ _ _ _ _ _ c.skip.new.path skips c.in_ok-conclude-in-Arrived.ensures.state c.in_ok-conclude-in-Arrived.ensures.marks

pub returns-in_ok-conclude-in-Left-clause-ok : goal.returns-in_ok-conclude-in-Left-clause-ok
returns-in_ok-conclude-in-Left-clause-ok g c =
    at_stop (workings g.A.Block.Block.header g.A.Block.Block.context_of g.A.Context.Rounded.round_of g.A.Application.works g.A.Databases.DatabaseSet.kind g.A.Databases.DatabaseSet.shows)
    _ _ _ _ _ _ _ _ _ c.skip.new.path c.in_ok-skip.field-0 c.in-Left.is c.in_ok-skip.ensures.skips c.in_ok-conclude-in-Left.ensures.state c.in_ok-conclude-in-Left.ensures.marks

pub returns-in_ok-execute-in-Run-clause-ok : goal.returns-in_ok-execute-in-Run-clause-ok
returns-in_ok-execute-in-Run-clause-ok g c =
    let skips = rw c.in-Run.is at c.in_ok-skip.ensures.skips in
    at_run (workings g.A.Block.Block.header g.A.Block.Block.context_of g.A.Context.Rounded.round_of g.A.Application.works g.A.Databases.DatabaseSet.kind g.A.Databases.DatabaseSet.shows)
    _ _ _ _ _ _ _ _ _ c.skip.new.path c.in-Run.job skips c.in_ok-execute-in-Run.ensures.ok refl

pub returns-in_ok-execute-in-Unrun-clause-ok : goal.returns-in_ok-execute-in-Unrun-clause-ok
returns-in_ok-execute-in-Unrun-clause-ok g c =
    let skips = rw c.in-Unrun.is at c.in_ok-skip.ensures.skips in
    at_unrun (workings g.A.Block.Block.header g.A.Block.Block.context_of g.A.Context.Rounded.round_of g.A.Application.works g.A.Databases.DatabaseSet.kind g.A.Databases.DatabaseSet.shows)
    _ _ _ _ _ c.launch.new.tables _ _ _ _ _ _ c.skip.new.path c.in-Unrun.block c.in-Unrun.parent c.in_ok-job-in-Unrun.job skips c.in_ok-job-in-Unrun.ensures.starts c.in_ok-job-in-Unrun.ensures.job c.in_ok-execute-in-Unrun.ensures.ok c.in_ok-job-in-Unrun.ensures.marks c.in_ok-job-in-Unrun.ensures.members

pub returns-in_err-job-in-Unrun-clause-fault : goal.returns-in_err-job-in-Unrun-clause-fault
returns-in_err-job-in-Unrun-clause-fault g c =
    let skips = rw c.in-Unrun.is at c.in_ok-skip.ensures.skips in
    refused_start (workings g.A.Block.Block.header g.A.Block.Block.context_of g.A.Context.Rounded.round_of g.A.Application.works g.A.Databases.DatabaseSet.kind g.A.Databases.DatabaseSet.shows)
    _ _ _ c.skip.new.path c.in-Unrun.block c.in-Unrun.parent c.from_residual-in_err-job-in-Unrun.result c.in_err-job-in-Unrun.field-0.0 c.from_residual-in_err-job-in-Unrun.ensures.1 skips c.in_err-job-in-Unrun.ensures.fault
