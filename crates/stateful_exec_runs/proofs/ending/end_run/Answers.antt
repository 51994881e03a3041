use Rattle.stateful_exec_model.specs.Workings.{workings}
use Rattle.stateful_exec_model.proofs.Ended.{ends_run}
use Rattle.stateful_exec_runs.proofs.ending.end_run.Goals as goal

pub returns-clause-ok : goal.returns-clause-ok
returns-clause-ok g c =
    ends_run (workings g.A.Block.Block.header g.A.Block.Block.context_of g.A.Context.Rounded.round_of g.A.Application.works g.A.Databases.DatabaseSet.kind g.A.Databases.DatabaseSet.shows)
    c.args.tables.now c.take_run-live.new.self c.end.new.tables c.cross.new.self _ _ c.args.job c.take_run-live.result c.args.ended c.in_ok-how.how
    c.take_run-live.ensures.run c.take_run-live.ensures.rest c.in_ok-how.ensures.told c.in_ok-how.ensures.rest c.in_ok-cross.ensures.crosses c.in_ok-cross.ensures.rest c.in_ok-push.ensures.items
