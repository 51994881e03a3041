use Rattle.std.proofs.Common.{◌∙◌, sym, refl, Some, ⊎_elim, inl, inr, ap}
use Rattle.std.proofs.lemmas.Bool.{true≢false}
use Rattle.std.proofs.lemmas.Result.{on_ok_weaker, MatchResult-weaker}
use Rattle.stateful_exec_model.specs.Workings.{workings}
use Rattle.stateful_loop_model.specs.Causes.{memory, covering, observing, ending}
use Rattle.stateful_loop_model.specs.Moments.{executing, moment}
use Rattle.stateful_loop_model.specs.Rules.{covers, observes, ends}
use Rattle.stateful_loop_model.proofs.Finalizations.{covers_with, observes_with, ends_with}
use Rattle.stateful_loop_model.proofs.NotesFollowing.{both_ok, stay_ok, stay_refused, leaves_follow, observes_follow}
use Rattle.stateful_loop_model.proofs.Observing.{read, covers_leaves, ends_leaves}
use Rattle.stateful_loop_model.specs.Noted.{noted_all}
use Rattle.stateful_loop_finals.proofs.finalizing.go_on_advanced.Goals as goal

pub returns-then-needs_barrier-clause-ok : goal.returns-then-needs_barrier-clause-ok
returns-then-needs_barrier-clause-ok g c =
    let w = workings g.A.Block.Block.header g.A.Block.Block.context_of g.A.Context.Rounded.round_of g.A.Application.works g.A.Databases.DatabaseSet.kind g.A.Databases.DatabaseSet.shows in
    let e = executing c.args.handler.now in
    let m = moment w e c.args.processing.now (g.A.Databases.DatabaseSet.members c.args.databases.now)
    (g.A.Databases.DatabaseSet.next c.args.databases.now) c.args.marks.now.items in
    on_ok_weaker c.begin_barrier.result
    (λ begins provider. covers c.requires.finalizing c.requires.advanced c.in-Some.is (c.needs_barrier.ensures.needed.0 c.if-needs_barrier.true)
    (covers_with w c.args.front c.in-Some.captured m _ c.in-Some.is (begins e)))
    c.begin_barrier.ensures.ok

pub returns-then-needs_barrier-clause-fault : goal.returns-then-needs_barrier-clause-fault
returns-then-needs_barrier-clause-fault g c =
    MatchResult-weaker c.begin_barrier.result c.begin_barrier.ensures.fault (λ x p. p)
    (λ e fault. covering c.requires.finalizing c.requires.advanced c.in-Some.is (c.needs_barrier.ensures.needed.0 c.if-needs_barrier.true) fault)

pub returns-else-needs_barrier-clause-ok : goal.returns-else-needs_barrier-clause-ok
returns-else-needs_barrier-clause-ok g c =
    let w = workings g.A.Block.Block.header g.A.Block.Block.context_of g.A.Context.Rounded.round_of g.A.Application.works g.A.Databases.DatabaseSet.kind g.A.Databases.DatabaseSet.shows in
    on_ok_weaker c.observe.result
    (λ o provider. observes c.requires.finalizing c.requires.advanced c.in-Some.is (λ needed. true≢false (sym (c.needs_barrier.ensures.needed.1 needed) ∙ c.if-needs_barrier.false))
    (observes_with w c.args.front _ c.in-Some.captured _ _ (Some c.args.front) refl refl o))
    c.observe.ensures.ok

pub returns-else-needs_barrier-clause-fault : goal.returns-else-needs_barrier-clause-fault
returns-else-needs_barrier-clause-fault g c =
    MatchResult-weaker c.observe.result c.observe.ensures.fault (λ x p. p) (λ e fault. observing c.requires.finalizing c.requires.advanced c.in-Some.is fault)

pub returns-in-None-clause-ok : goal.returns-in-None-clause-ok
returns-in-None-clause-ok g c =
    let w = workings g.A.Block.Block.header g.A.Block.Block.context_of g.A.Context.Rounded.round_of g.A.Application.works g.A.Databases.DatabaseSet.kind g.A.Databases.DatabaseSet.shows in
    on_ok_weaker c.end_finalization.result
    (λ e provider. ends c.requires.finalizing c.requires.advanced c.in-None.is (ends_with w _ c.args.front _ _ _ (Some c.args.front) refl refl e))
    c.end_finalization.ensures.ok

pub returns-in-None-clause-fault : goal.returns-in-None-clause-fault
returns-in-None-clause-fault g c =
    MatchResult-weaker c.end_finalization.result c.end_finalization.ensures.fault (λ x p. p)
    (λ e fault. ⊎_elim (λ is. memory is) (λ resumes. ending c.requires.finalizing c.requires.advanced c.in-None.is resumes) fault)

pub returns-then-needs_barrier-clause-notes : goal.returns-then-needs_barrier-clause-notes
returns-then-needs_barrier-clause-notes g c =
    let w = workings g.A.Block.Block.header g.A.Block.Block.context_of g.A.Context.Rounded.round_of g.A.Application.works g.A.Databases.DatabaseSet.kind g.A.Databases.DatabaseSet.shows in
    let e = executing c.args.handler.now in
    let m = moment w e (record c.args.processing.now { front = Some c.args.front }) (g.A.Databases.DatabaseSet.members c.args.databases.now)
    (g.A.Databases.DatabaseSet.next c.args.databases.now) c.args.marks.now.items in
    let now = moment w e c.begin_barrier.new.processing (g.A.Databases.DatabaseSet.members c.begin_barrier.new.databases)
    (g.A.Databases.DatabaseSet.next c.begin_barrier.new.databases) c.begin_barrier.new.marks.items in
    on_ok_weaker c.begin_barrier.result
    (λ begins. leaves_follow g.A.Application.works.noted w m now _ _
    (covers_leaves w m now (covers_with w c.args.front c.in-Some.captured m now c.in-Some.is (begins e))) refl)
    c.begin_barrier.ensures.ok

pub returns-then-needs_barrier-clause-noted : goal.returns-then-needs_barrier-clause-noted
returns-then-needs_barrier-clause-noted g c =
    stay_refused g.A.Application.works.noted c.begin_barrier.result _ _ (Some c.args.front) (λ other. refl)

pub returns-else-needs_barrier-clause-notes : goal.returns-else-needs_barrier-clause-notes
returns-else-needs_barrier-clause-notes g c =
    let w = workings g.A.Block.Block.header g.A.Block.Block.context_of g.A.Context.Rounded.round_of g.A.Application.works g.A.Databases.DatabaseSet.kind g.A.Databases.DatabaseSet.shows in
    let e = executing c.args.handler.now in
    let m = moment w e (record c.args.processing.now { front = Some c.args.front }) (g.A.Databases.DatabaseSet.members c.args.databases.now)
    (g.A.Databases.DatabaseSet.next c.args.databases.now) c.args.marks.now.items in
    let now = moment w (executing c.observe.new.handler) c.observe.new.processing (g.A.Databases.DatabaseSet.members c.args.databases.now)
    (g.A.Databases.DatabaseSet.next c.args.databases.now) c.observe.new.marks.items in
    both_ok c.observe.result c.observe.ensures.ok c.observe.ensures.notes
    (λ o notes. observes_follow g.A.Application.works.noted w m now _ _ c.args.front c.in-Some.captured refl c.in-Some.is
    (observes_with w c.args.front _ c.in-Some.captured _ now (Some c.args.front) refl refl o) notes)

pub returns-else-needs_barrier-clause-noted : goal.returns-else-needs_barrier-clause-noted
returns-else-needs_barrier-clause-noted g c =
    let before = g.A.Application.notes c.args.handler.now.application in
    MatchResult-weaker c.observe.result c.observe.ensures.noted (λ x p. p)
    (λ e noted other. ⊎_elim (λ stay. inl stay)
    (λ told. inr (told ∙ sym (ap (λ l. noted_all g.A.Application.works.noted before l) (read c.args.front c.in-Some.captured c.in-Some.is)))) (noted other))

pub returns-in-None-clause-notes : goal.returns-in-None-clause-notes
returns-in-None-clause-notes g c =
    let w = workings g.A.Block.Block.header g.A.Block.Block.context_of g.A.Context.Rounded.round_of g.A.Application.works g.A.Databases.DatabaseSet.kind g.A.Databases.DatabaseSet.shows in
    let e = executing c.args.handler.now in
    let m = moment w e (record c.args.processing.now { front = Some c.args.front }) (g.A.Databases.DatabaseSet.members c.args.databases.now)
    (g.A.Databases.DatabaseSet.next c.args.databases.now) c.args.marks.now.items in
    let stored = g.S.BlockStore.stored c.args.store.now in
    let now = moment w (executing c.end_finalization.new.handler) c.end_finalization.new.processing (g.A.Databases.DatabaseSet.members c.end_finalization.new.databases)
    (g.A.Databases.DatabaseSet.next c.end_finalization.new.databases) c.end_finalization.new.marks.items in
    stay_ok c.end_finalization.result c.end_finalization.ensures.ok c.end_finalization.ensures.notes
    (λ ended stay. leaves_follow g.A.Application.works.noted w m now _ _
    (ends_leaves w stored c.args.front m now refl c.in-None.is (ends_with w stored c.args.front _ _ now (Some c.args.front) refl refl ended)) stay)

pub returns-in-None-clause-noted : goal.returns-in-None-clause-noted
returns-in-None-clause-noted g c =
    stay_refused g.A.Application.works.noted c.end_finalization.result _ _ (Some c.args.front) c.end_finalization.ensures.notes
