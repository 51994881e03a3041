use Rattle.std.proofs.Common.{◌∷◌, refl, ap, ◌∙◌}
use Rattle.stateful_exec_model.specs.Workings.{workings}
use Rattle.stateful_loop_model.proofs.Handing.{converted}
use Rattle.stateful_loop_model.proofs.Firsts.{takes_message, not_taken}
use Rattle.stateful_loop_model.specs.Causes.FaultsRule.{building}
use Rattle.stateful_loop_model.specs.Moments.{executing, moment}
use Rattle.stateful_loop_model.specs.Rules.Rule.{builds, takes}
use Rattle.stateful_loop_model.specs.Rules.Takes.{of_action}
use Rattle.stateful_loop_model.proofs.NotesFollowing.{not_again}
use Rattle.stateful_loop_taking.proofs.taking.take_first.Goals as goal

pub returns-in_err-build-in-Build-clause-fault : goal.returns-in_err-build-in-Build-clause-fault
returns-in_err-build-in-Build-clause-fault g c =
    let first = c.in-Some.ensures.some ∙ ap (λ action. action ∷ c.pop.new.self) c.in-Build.is in
    converted _ c.from_residual.result c.in_err-build-in-Build.field-0.0 c.from_residual.ensures.1 (building c.requires.calm first c.in_err-build-in-Build.ensures.fault)

pub returns-in_err-take_message-in-Message-clause-fault : goal.returns-in_err-take_message-in-Message-clause-fault
returns-in_err-take_message-in-Message-clause-fault g c =
    let w = workings g.A.Block.Block.header g.A.Block.Block.context_of g.A.Context.Rounded.round_of g.A.Application.works g.A.Databases.DatabaseSet.kind g.A.Databases.DatabaseSet.shows in
    let m = moment w (executing c.args.handler.now) c.args.processing.now (g.A.Databases.DatabaseSet.members c.args.databases.now) (g.A.Databases.DatabaseSet.next c.args.databases.now) c.args.marks.now.items in
    let first = c.in-Some.ensures.some ∙ ap (λ action. action ∷ c.pop.new.self) c.in-Message.is in
    converted _ c.from_residual-in_err-take_message-in-Message.result c.in_err-take_message-in-Message.field-0.0 c.from_residual-in_err-take_message-in-Message.ensures.1
    (not_taken w _ m c.requires.calm _ _ _ _ c.in-Message.message _ c.in_err-take_message-in-Message.field-0.0 (of_action first refl) c.in_err-take_message-in-Message.ensures.fault)

pub returns-in_ok-build-in-Build-clause-ok : goal.returns-in_ok-build-in-Build-clause-ok
returns-in_ok-build-in-Build-clause-ok g c =
    let first = c.in-Some.ensures.some ∙ ap (λ action. action ∷ c.pop.new.self) c.in-Build.is in
    builds c.requires.calm first (c.in_ok-build-in-Build.ensures.ok (record c.args.processing.now { actions = c.pop.new.self }))

pub returns-in_ok-take_message-in-Message-clause-ok : goal.returns-in_ok-take_message-in-Message-clause-ok
returns-in_ok-take_message-in-Message-clause-ok g c =
    let first = c.in-Some.ensures.some ∙ ap (λ action. action ∷ c.pop.new.self) c.in-Message.is in
    takes c.requires.calm (of_action first refl) c.in_ok-take_message-in-Message.ensures.ok

pub returns-in_err-take_message-clause-fault : goal.returns-in_err-take_message-clause-fault
returns-in_err-take_message-clause-fault g c =
    let w = workings g.A.Block.Block.header g.A.Block.Block.context_of g.A.Context.Rounded.round_of g.A.Application.works g.A.Databases.DatabaseSet.kind g.A.Databases.DatabaseSet.shows in
    let m = moment w (executing c.args.handler.now) c.args.processing.now (g.A.Databases.DatabaseSet.members c.args.databases.now) (g.A.Databases.DatabaseSet.next c.args.databases.now) c.args.marks.now.items in
    let none = c.in_default.ensures.none in
    let taken = takes_message w (g.S.BlockStore.stored c.args.store.now) m c.requires.calm c.pop.new.self none.0 none.1
    c.in-Some-pop.message c.pop-2.new.self c.in-Some-pop.ensures.some in
    converted _ c.from_residual-in_err-take_message.result c.in_err-take_message.field-0.0 c.from_residual-in_err-take_message.ensures.1
    (not_taken w _ m c.requires.calm _ _ _ _ c.in-Some-pop.message _ c.in_err-take_message.field-0.0 taken c.in_err-take_message.ensures.fault)

pub returns-clause-ok : goal.returns-clause-ok
returns-clause-ok g c =
    let w = workings g.A.Block.Block.header g.A.Block.Block.context_of g.A.Context.Rounded.round_of g.A.Application.works g.A.Databases.DatabaseSet.kind g.A.Databases.DatabaseSet.shows in
    let m = moment w (executing c.args.handler.now) c.args.processing.now (g.A.Databases.DatabaseSet.members c.args.databases.now) (g.A.Databases.DatabaseSet.next c.args.databases.now) c.args.marks.now.items in
    let none = c.in_default.ensures.none in
    takes c.requires.calm (takes_message w (g.S.BlockStore.stored c.args.store.now) m c.requires.calm c.pop.new.self none.0 none.1
    c.in-Some-pop.message c.pop-2.new.self c.in-Some-pop.ensures.some) c.in_ok-take_message.ensures.ok

pub returns-in_err-build-in-Build-clause-notes : goal.returns-in_err-build-in-Build-clause-notes
returns-in_err-build-in-Build-clause-notes g c =
    λ other. c.in_err-build-in-Build.ensures.notes (not_again c.from_residual.result other c.in_err-build-in-Build.field-0.0 c.from_residual.ensures.1)

pub returns-in_err-take_message-in-Message-clause-notes : goal.returns-in_err-take_message-in-Message-clause-notes
returns-in_err-take_message-in-Message-clause-notes g c =
    λ other. c.in_err-take_message-in-Message.ensures.notes (not_again c.from_residual-in_err-take_message-in-Message.result other c.in_err-take_message-in-Message.field-0.0 c.from_residual-in_err-take_message-in-Message.ensures.1)

pub returns-in_err-take_message-clause-notes : goal.returns-in_err-take_message-clause-notes
returns-in_err-take_message-clause-notes g c =
    λ other. c.in_err-take_message.ensures.notes (not_again c.from_residual-in_err-take_message.result other c.in_err-take_message.field-0.0 c.from_residual-in_err-take_message.ensures.1)
