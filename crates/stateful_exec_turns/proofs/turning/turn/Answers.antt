use Rattle.std.proofs.Common.{ap}
use Rattle.stateful_exec_model.specs.Workings.{workings}
use Rattle.stateful_exec_tables.specs.declared.state.Tables.{Tables}
use Rattle.stateful_exec_model.proofs.Turning.{turns_run, put_there}
use Rattle.stateful_exec_turns.proofs.turning.turn.Goals as goal

pub returns-clause-ok : goal.returns-clause-ok
returns-clause-ok g c =
    turns_run (workings g.A.Block.Block.header g.A.Block.Block.context_of g.A.Context.Rounded.round_of g.A.Application.works g.A.Databases.DatabaseSet.kind g.A.Databases.DatabaseSet.shows)
    g.A.Run.Faulty.count (g.A.Databases.DatabaseSet.members c.args.databases.now) c.args.job c.args.tables.now c.take_run-live.new.self _ c.take_run-live.result c.turn-answer.new.run c.turn-answer.result
    c.take_run-live.ensures.run c.take_run-live.ensures.rest c.take_run-live.ensures.again c.turn-answer.ensures.ok c.turn-answer.ensures.cost c.turn-answer.ensures.failed c.in_ok-put_run.ensures.ok

pub returns-clause-there : goal.returns-clause-there
returns-clause-there g c =
    put_there c.take_run-live.new.self.runs _ c.args.job _
    (ap (λ (t : Tables g.row.A-Block.Denot g.row.A-Context.Denot g.row.A-Input.Denot g.row.A-Run.Denot g.row.A-Databases-Merkleized.Denot). t.runs) c.in_ok-put_run.ensures.ok)
