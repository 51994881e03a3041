use Rattle.std.proofs.Common.{ap}
use Rattle.std.proofs.lemmas.Result.{on_ok_weaker}
use Rattle.stateful_exec_model.specs.Workings.{workings}
use Rattle.stateful_loop_model.specs.Moments.{executing, moment}
use Rattle.stateful_loop_model.specs.Rules.DoesMessage.{schedules, answers, begins}
use Rattle.stateful_loop_taking.proofs.taking.take_message.Goals as goal

pub duplicate-requires-clause-held : goal.duplicate-requires-clause-held
duplicate-requires-clause-held g c =
    let past = c.in_ok-redelivered-in-Finalized.ensures.past c.if-branch.true in
    c.requires.held (g.A.Block.Block.header.height c.in-Finalized.block.block) (rw c.requires.applied past.low)

pub returns-in-Request-clause-ok : goal.returns-in-Request-clause-ok
returns-in-Request-clause-ok g c = on_ok_weaker c.schedule.result (λ does. rw c.in-Request.is (schedules (does c.args.processing.now))) c.schedule.ensures.ok

pub returns-in_ok-push-in-Subscribe-clause-ok : goal.returns-in_ok-push-in-Subscribe-clause-ok
returns-in_ok-push-in-Subscribe-clause-ok g c =
    let w = workings g.A.Block.Block.header g.A.Block.Block.context_of g.A.Context.Rounded.round_of g.A.Application.works g.A.Databases.DatabaseSet.kind g.A.Databases.DatabaseSet.shows in
    rw c.in-Subscribe.is (answers (ap (moment w (executing c.args.handler.now) c.args.processing.now (g.A.Databases.DatabaseSet.members c.args.databases.now) (g.A.Databases.DatabaseSet.next c.args.databases.now)) c.in_ok-push-in-Subscribe.ensures.items))

pub returns-else-branch-clause-ok : goal.returns-else-branch-clause-ok
returns-else-branch-clause-ok g c =
    on_ok_weaker c.begin_finalization.result (λ does. rw c.in-Finalized.is (begins (c.in_ok-redelivered-in-Finalized.ensures.next c.if-branch.false) does))
    c.begin_finalization.ensures.ok
