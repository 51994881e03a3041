use Rattle.stateful_actor_step.proofs.Arms.{other_event}
use Rattle.std.proofs.Common.{ap, sym, ◌∙◌, true≢false}
use Rattle.std.proofs.lemmas.Result.{on_ok_weaker}
use Rattle.stateful_exec_model.specs.Workings.{workings}
use Rattle.stateful_loop_model.specs.Moments.{executing, moment}
use Rattle.stateful_loop_model.specs.Noted.{unobserved}
use Rattle.stateful_loop_model.proofs.Intakes.{on_err}
use Rattle.stateful_actor_step.proofs.NotesOfEvents.{play_refused, restart_refused}
use Rattle.stateful_actor_step.proofs.ResultsOfCalls.{if_err}
use Rattle.stateful_actor_step.proofs.inside.Core.act.Goals as goal

pub play-requires-clause-up : goal.play-requires-clause-up
play-requires-clause-up g c =
    let other = other_event c.args.event.now c.in_default.not-Restart in
    c.requires.up other

pub returns-in-Restart-clause-notes : goal.returns-in-Restart-clause-notes
returns-in-Restart-clause-notes g c =
    on_ok_weaker c.restart.result (λ n p stands observed. n p stands) c.restart.ensures.notes

pub returns-in-Restart-clause-observed : goal.returns-in-Restart-clause-observed
returns-in-Restart-clause-observed g c =
    on_ok_weaker c.restart.result (λ r observed. ap unobserved (ap (λ l. l.front) r.opens.loop ∙ r.clears.front.0)) c.restart.ensures.ok

pub returns-in-Restart-clause-noted : goal.returns-in-Restart-clause-noted
returns-in-Restart-clause-noted g c =
    let D = g.A.Databases.DatabaseSet in
    let w = workings g.A.Block.Block.header g.A.Block.Block.context_of g.A.Context.Rounded.round_of g.A.Application.works D.kind D.shows in
    let m = moment w (executing c.args.self.now.handler) c.args.self.now.processing (D.members c.args.databases.now)
    (D.next c.args.databases.now) c.args.marks.now.items in
    if_err c.restart.result _ (λ e other.
    restart_refused w (g.S.BlockStore.stored c.args.store.now) c.args.self.now.provider g.A.Application.works.noted _ _ _ c.args.event.now c.in-Restart.floor c.in-Restart.keep m
    c.in-Restart.is (ap g.A.Application.notes c.restart.ensures.application))

pub returns-in_default-clause-notes : goal.returns-in_default-clause-notes
returns-in_default-clause-notes g c =
    let other = other_event c.args.event.now c.in_default.not-Restart in
    on_ok_weaker c.play.result (λ n p stands observed. n p stands (observed other)) c.play.ensures.notes

pub returns-in_default-clause-observed : goal.returns-in_default-clause-observed
returns-in_default-clause-observed g c =
    let other = other_event c.args.event.now c.in_default.not-Restart in
    on_ok_weaker c.play.result (λ n observed. n (observed other)) c.play.ensures.observed

pub returns-in_default-clause-noted : goal.returns-in_default-clause-noted
returns-in_default-clause-noted g c =
    let D = g.A.Databases.DatabaseSet in
    let w = workings g.A.Block.Block.header g.A.Block.Block.context_of g.A.Context.Rounded.round_of g.A.Application.works D.kind D.shows in
    let m = moment w (executing c.args.self.now.handler) c.args.self.now.processing (D.members c.args.databases.now)
    (D.next c.args.databases.now) c.args.marks.now.items in
    let other = other_event c.args.event.now c.in_default.not-Restart in
    on_err c.play.result _ _ c.play.ensures.noted (λ e n unlike.
    play_refused w (g.S.BlockStore.stored c.args.store.now) c.args.self.now.provider g.A.Application.works.noted _ _ _ c.args.event.now m other (n unlike))

pub returns-in_default-clause-restarted : goal.returns-in_default-clause-restarted
returns-in_default-clause-restarted g c =
    let other = other_event c.args.event.now c.in_default.not-Restart in
    λ is. absurd (true≢false (sym is ∙ other))
