use Rattle.std.proofs.lemmas.Result.{on_ok_weaker, IfErr-weaker}
use Rattle.stateful_exec_model.specs.Workings.{workings}
use Rattle.stateful_exec_model.specs.Finalizing.{turned, run_failed}
use Rattle.stateful_exec_model.proofs.Turning.{turns}
use Rattle.stateful_exec_finals.proofs.finalizing.complete_finalized.Goals as goal

pub returns-clause-ok : goal.returns-clause-ok
returns-clause-ok g c =
    let w = workings g.A.Block.Block.header g.A.Block.Block.context_of g.A.Context.Rounded.round_of g.A.Application.works g.A.Databases.DatabaseSet.kind g.A.Databases.DatabaseSet.shows in
    on_ok_weaker c.settle_finalized.result (λ settles. turned c.in-Some.ensures.live (record { turns = turns w (g.A.Databases.DatabaseSet.members c.args.databases.now) _ c.turn-answer.new.run c.turn-answer.result c.turn-answer.ensures.ok c.turn-answer.ensures.cost; failed = c.turn-answer.ensures.failed }) settles) c.settle_finalized.ensures.ok

pub returns-clause-fault : goal.returns-clause-fault
returns-clause-fault g c =
    let w = workings g.A.Block.Block.header g.A.Block.Block.context_of g.A.Context.Rounded.round_of g.A.Application.works g.A.Databases.DatabaseSet.kind g.A.Databases.DatabaseSet.shows in
    IfErr-weaker c.settle_finalized.result _ _ (λ e fault. run_failed c.in-Some.ensures.live (record { turns = turns w (g.A.Databases.DatabaseSet.members c.args.databases.now) _ c.turn-answer.new.run c.turn-answer.result c.turn-answer.ensures.ok c.turn-answer.ensures.cost; failed = c.turn-answer.ensures.failed }) fault) c.settle_finalized.ensures.fault
