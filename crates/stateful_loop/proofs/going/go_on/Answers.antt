use Rattle.std.proofs.Common.{◌≡◌, rules, Some, None, IsSome, inl, refl, sym, ap, ◌∙◌}
use Rattle.std.proofs.lemmas.Result.{MatchResult-weaker}
use Rattle.stateful_base.specs.Causes.{Rose}
use Rattle.stateful_exec_model.specs.Workings.{workings}
use Rattle.stateful_loop_model.specs.Causes.{FaultsRule}
use Rattle.stateful_loop_model.specs.Moments.{Moment, executing, moment}
use Rattle.stateful_loop_model.specs.Rules.{Goes}
use Rattle.stateful_loop_model.specs.Rules.Rule.{collects}
use Rattle.stateful_loop_model.proofs.Collected.{earlier, still_up, front_is, without_front, same_count}
use Rattle.stateful_loop_model.proofs.Handing.{converted}
use Rattle.stateful_loop_model.proofs.Intakes.{on_ok}
use Rattle.stateful_loop_model.proofs.NotesFollowing.{NotesFollow-same, NotesFollow-earlier, NotesMayFollow-earlier, stay_refused, stay_follow}
use Rattle.stateful_loop_model.proofs.Observing.{none_isnt}
use Rattle.stateful_loop.proofs.going.go_on.Goals as goal

pub returns-then-branch-clause-ok : goal.returns-then-branch-clause-ok
returns-then-branch-clause-ok g c =
    collects (search rules) (c.in_ok-collect.ensures.one c.if-branch.true).1

pub returns-then-is_some-clause-ok : goal.returns-then-is_some-clause-ok
returns-then-is_some-clause-ok g c =
    let w = workings g.A.Block.Block.header g.A.Block.Block.context_of g.A.Context.Rounded.round_of g.A.Application.works g.A.Databases.DatabaseSet.kind g.A.Databases.DatabaseSet.shows in
    let none = c.in_ok-collect.ensures.none c.if-branch.false in
    let stored = g.S.BlockStore.stored c.args.store.now in
    let members = g.A.Databases.DatabaseSet.members c.args.databases.now in
    let next = g.A.Databases.DatabaseSet.next c.args.databases.now in
    let marks = c.args.marks.now.items in
    let now = executing c.collect.new.handler in
    let e = executing c.args.handler.now in
    let later = c.collect.new.processing in
    let l = c.args.processing.now in
    MatchResult-weaker c.drain_first.result c.drain_first.ensures.ok (λ went goes. earlier w members next marks now e later l none.1 none.2 (λ (m : Moment w). Goes w stored c.args.provider m (moment w (executing c.drain_first.new.handler) c.drain_first.new.processing (g.A.Databases.DatabaseSet.members c.drain_first.new.databases) (g.A.Databases.DatabaseSet.next c.drain_first.new.databases) c.drain_first.new.marks.items) went) (goes c.args.provider)) (λ fault p. p)

pub returns-then-is_some-clause-fault : goal.returns-then-is_some-clause-fault
returns-then-is_some-clause-fault g c =
    let w = workings g.A.Block.Block.header g.A.Block.Block.context_of g.A.Context.Rounded.round_of g.A.Application.works g.A.Databases.DatabaseSet.kind g.A.Databases.DatabaseSet.shows in
    let none = c.in_ok-collect.ensures.none c.if-branch.false in
    let stored = g.S.BlockStore.stored c.args.store.now in
    let members = g.A.Databases.DatabaseSet.members c.args.databases.now in
    let next = g.A.Databases.DatabaseSet.next c.args.databases.now in
    let marks = c.args.marks.now.items in
    let now = executing c.collect.new.handler in
    let e = executing c.args.handler.now in
    let later = c.collect.new.processing in
    let l = c.args.processing.now in
    MatchResult-weaker c.drain_first.result c.drain_first.ensures.fault (λ x p. p) (λ fault faults. earlier w members next marks now e later l none.1 none.2 (λ (m : Moment w). FaultsRule w stored (Rose (g.A.Faulty.count c.args.handler.now.application) (g.A.Faulty.count c.drain_first.new.handler.application)) (g.A.Databases.DatabaseSet.counted c.args.databases.now) (g.A.Databases.DatabaseSet.counted c.drain_first.new.databases) (g.A.Databases.DatabaseSet.members c.drain_first.new.databases) m fault) (same_count (λ n. FaultsRule w stored (Rose n (g.A.Faulty.count c.drain_first.new.handler.application)) (g.A.Databases.DatabaseSet.counted c.args.databases.now) (g.A.Databases.DatabaseSet.counted c.drain_first.new.databases) (g.A.Databases.DatabaseSet.members c.drain_first.new.databases) (moment w now later members next marks) fault) g.A.Faulty.count c.collect.new.handler.application c.args.handler.now.application c.in_ok-collect.ensures.same faults))

pub go_on_finalizing-requires-clause-up : goal.go_on_finalizing-requires-clause-up
go_on_finalizing-requires-clause-up g c =
    let w = workings g.A.Block.Block.header g.A.Block.Block.context_of g.A.Context.Rounded.round_of g.A.Application.works g.A.Databases.DatabaseSet.kind g.A.Databases.DatabaseSet.shows in
    let none = c.in_ok-collect.ensures.none c.if-branch.false in
    let stored = g.S.BlockStore.stored c.args.store.now in
    let members = g.A.Databases.DatabaseSet.members c.args.databases.now in
    let next = g.A.Databases.DatabaseSet.next c.args.databases.now in
    let marks = c.args.marks.now.items in
    let now = executing c.collect.new.handler in
    let e = executing c.args.handler.now in
    let later = c.collect.new.processing in
    let l = c.args.processing.now in
    front_is w members next marks now e later l none.1 none.2 (Some c.in-Some.front) (search rules) (still_up w members next marks now e later l none.1 none.2 (c.requires.sound.up (search rules)))

pub go_on_idle-requires-clause-up : goal.go_on_idle-requires-clause-up
go_on_idle-requires-clause-up g c =
    let w = workings g.A.Block.Block.header g.A.Block.Block.context_of g.A.Context.Rounded.round_of g.A.Application.works g.A.Databases.DatabaseSet.kind g.A.Databases.DatabaseSet.shows in
    let none = c.in_ok-collect.ensures.none c.if-branch.false in
    let stored = g.S.BlockStore.stored c.args.store.now in
    let members = g.A.Databases.DatabaseSet.members c.args.databases.now in
    let next = g.A.Databases.DatabaseSet.next c.args.databases.now in
    let marks = c.args.marks.now.items in
    let now = executing c.collect.new.handler in
    let e = executing c.args.handler.now in
    let later = c.collect.new.processing in
    let l = c.args.processing.now in
    front_is w members next marks now e later l none.1 none.2 c.take.new.self (search rules) (still_up w members next marks now e later l none.1 none.2 (c.requires.sound.up (search rules)))

pub returns-in-Some-clause-ok : goal.returns-in-Some-clause-ok
returns-in-Some-clause-ok g c =
    let w = workings g.A.Block.Block.header g.A.Block.Block.context_of g.A.Context.Rounded.round_of g.A.Application.works g.A.Databases.DatabaseSet.kind g.A.Databases.DatabaseSet.shows in
    let none = c.in_ok-collect.ensures.none c.if-branch.false in
    let stored = g.S.BlockStore.stored c.args.store.now in
    let members = g.A.Databases.DatabaseSet.members c.args.databases.now in
    let next = g.A.Databases.DatabaseSet.next c.args.databases.now in
    let marks = c.args.marks.now.items in
    let now = executing c.collect.new.handler in
    let e = executing c.args.handler.now in
    let later = c.collect.new.processing in
    let l = c.args.processing.now in
    MatchResult-weaker c.go_on_finalizing.result c.go_on_finalizing.ensures.ok (λ went goes. without_front w members next marks now e later l none.1 none.2 (λ (m : Moment w). Goes w stored c.args.provider m (moment w (executing c.go_on_finalizing.new.handler) c.go_on_finalizing.new.processing (g.A.Databases.DatabaseSet.members c.go_on_finalizing.new.databases) (g.A.Databases.DatabaseSet.next c.go_on_finalizing.new.databases) c.go_on_finalizing.new.marks.items) went) (Some c.in-Some.front) (search rules) (goes c.args.provider)) (λ fault p. p)

pub returns-in-Some-clause-fault : goal.returns-in-Some-clause-fault
returns-in-Some-clause-fault g c =
    let w = workings g.A.Block.Block.header g.A.Block.Block.context_of g.A.Context.Rounded.round_of g.A.Application.works g.A.Databases.DatabaseSet.kind g.A.Databases.DatabaseSet.shows in
    let none = c.in_ok-collect.ensures.none c.if-branch.false in
    let stored = g.S.BlockStore.stored c.args.store.now in
    let members = g.A.Databases.DatabaseSet.members c.args.databases.now in
    let next = g.A.Databases.DatabaseSet.next c.args.databases.now in
    let marks = c.args.marks.now.items in
    let now = executing c.collect.new.handler in
    let e = executing c.args.handler.now in
    let later = c.collect.new.processing in
    let l = c.args.processing.now in
    MatchResult-weaker c.go_on_finalizing.result c.go_on_finalizing.ensures.fault (λ x p. p) (λ fault faults. without_front w members next marks now e later l none.1 none.2 (λ (m : Moment w). FaultsRule w stored (Rose (g.A.Faulty.count c.args.handler.now.application) (g.A.Faulty.count c.go_on_finalizing.new.handler.application)) (g.A.Databases.DatabaseSet.counted c.args.databases.now) (g.A.Databases.DatabaseSet.counted c.go_on_finalizing.new.databases) (g.A.Databases.DatabaseSet.members c.go_on_finalizing.new.databases) m fault) (Some c.in-Some.front) (search rules) (same_count (λ n. FaultsRule w stored (Rose n (g.A.Faulty.count c.go_on_finalizing.new.handler.application)) (g.A.Databases.DatabaseSet.counted c.args.databases.now) (g.A.Databases.DatabaseSet.counted c.go_on_finalizing.new.databases) (g.A.Databases.DatabaseSet.members c.go_on_finalizing.new.databases) (moment w now (record later { front = Some c.in-Some.front }) members next marks) fault) g.A.Faulty.count c.collect.new.handler.application c.args.handler.now.application c.in_ok-collect.ensures.same faults))

pub returns-in-None-clause-ok : goal.returns-in-None-clause-ok
returns-in-None-clause-ok g c =
    let w = workings g.A.Block.Block.header g.A.Block.Block.context_of g.A.Context.Rounded.round_of g.A.Application.works g.A.Databases.DatabaseSet.kind g.A.Databases.DatabaseSet.shows in
    let none = c.in_ok-collect.ensures.none c.if-branch.false in
    let stored = g.S.BlockStore.stored c.args.store.now in
    let members = g.A.Databases.DatabaseSet.members c.args.databases.now in
    let next = g.A.Databases.DatabaseSet.next c.args.databases.now in
    let marks = c.args.marks.now.items in
    let now = executing c.collect.new.handler in
    let e = executing c.args.handler.now in
    let later = c.collect.new.processing in
    let l = c.args.processing.now in
    MatchResult-weaker c.go_on_idle.result c.go_on_idle.ensures.ok (λ went goes. without_front w members next marks now e later l none.1 none.2 (λ (m : Moment w). Goes w stored c.args.provider m (moment w (executing c.go_on_idle.new.handler) c.go_on_idle.new.processing (g.A.Databases.DatabaseSet.members c.go_on_idle.new.databases) (g.A.Databases.DatabaseSet.next c.go_on_idle.new.databases) c.go_on_idle.new.marks.items) went) c.take.new.self (search rules) goes) (λ fault p. p)

pub returns-in-None-clause-fault : goal.returns-in-None-clause-fault
returns-in-None-clause-fault g c =
    let w = workings g.A.Block.Block.header g.A.Block.Block.context_of g.A.Context.Rounded.round_of g.A.Application.works g.A.Databases.DatabaseSet.kind g.A.Databases.DatabaseSet.shows in
    let none = c.in_ok-collect.ensures.none c.if-branch.false in
    let stored = g.S.BlockStore.stored c.args.store.now in
    let members = g.A.Databases.DatabaseSet.members c.args.databases.now in
    let next = g.A.Databases.DatabaseSet.next c.args.databases.now in
    let marks = c.args.marks.now.items in
    let now = executing c.collect.new.handler in
    let e = executing c.args.handler.now in
    let later = c.collect.new.processing in
    let l = c.args.processing.now in
    MatchResult-weaker c.go_on_idle.result c.go_on_idle.ensures.fault (λ x p. p) (λ fault faults. without_front w members next marks now e later l none.1 none.2 (λ (m : Moment w). FaultsRule w stored (Rose (g.A.Faulty.count c.args.handler.now.application) (g.A.Faulty.count c.go_on_idle.new.handler.application)) (g.A.Databases.DatabaseSet.counted c.args.databases.now) (g.A.Databases.DatabaseSet.counted c.go_on_idle.new.databases) (g.A.Databases.DatabaseSet.members c.go_on_idle.new.databases) m fault) c.take.new.self (search rules) (same_count (λ n. FaultsRule w stored (Rose n (g.A.Faulty.count c.go_on_idle.new.handler.application)) (g.A.Databases.DatabaseSet.counted c.args.databases.now) (g.A.Databases.DatabaseSet.counted c.go_on_idle.new.databases) (g.A.Databases.DatabaseSet.members c.go_on_idle.new.databases) (moment w now (record later { front = c.take.new.self }) members next marks) fault) g.A.Faulty.count c.collect.new.handler.application c.args.handler.now.application c.in_ok-collect.ensures.same faults))

pub returns-then-not-processing-clause-notes : goal.returns-then-not-processing-clause-notes
returns-then-not-processing-clause-notes g c =
    NotesFollow-same g.A.Application.works.noted _ _ c.args.processing.now.front _ _ _ refl refl refl

pub returns-in_err-collect-clause-noted : goal.returns-in_err-collect-clause-noted
returns-in_err-collect-clause-noted g c =
    converted _ c.from_residual.result c.in_err-collect.field-0.0 c.from_residual.ensures.1
    (λ other. inl (ap g.A.Application.notes c.in_err-collect.ensures.same))

pub returns-then-branch-clause-notes : goal.returns-then-branch-clause-notes
returns-then-branch-clause-notes g c =
    let w = workings g.A.Block.Block.header g.A.Block.Block.context_of g.A.Context.Rounded.round_of g.A.Application.works g.A.Databases.DatabaseSet.kind g.A.Databases.DatabaseSet.shows in
    let collected = (c.in_ok-collect.ensures.one c.if-branch.true).1 in
    NotesFollow-same g.A.Application.works.noted _ _ c.args.processing.now.front _ _ _ (ap g.A.Application.notes c.in_ok-collect.ensures.same)
    (ap (λ (n : Moment w). n.loop.front) collected.becomes) refl

pub returns-then-is_some-clause-notes : goal.returns-then-is_some-clause-notes
returns-then-is_some-clause-notes g c =
    let w = workings g.A.Block.Block.header g.A.Block.Block.context_of g.A.Context.Rounded.round_of g.A.Application.works g.A.Databases.DatabaseSet.kind g.A.Databases.DatabaseSet.shows in
    let none = c.in_ok-collect.ensures.none c.if-branch.false in
    let stored = g.S.BlockStore.stored c.args.store.now in
    let members = g.A.Databases.DatabaseSet.members c.args.databases.now in
    let next = g.A.Databases.DatabaseSet.next c.args.databases.now in
    let marks = c.args.marks.now.items in
    let now = executing c.collect.new.handler in
    let later = c.collect.new.processing in
    let l = c.args.processing.now in
    let noted = g.A.Application.works.noted in
    let notes = g.A.Application.notes in
    let built : IsSome c.collect.new.handler.build = search rules in
    on_ok c.drain_first.result
    (stay_follow noted w (moment w now later members next marks) (moment w (executing c.drain_first.new.handler) c.drain_first.new.processing (g.A.Databases.DatabaseSet.members c.drain_first.new.databases) (g.A.Databases.DatabaseSet.next c.drain_first.new.databases) c.drain_first.new.marks.items) _ _ stored c.args.provider
    (λ can. none_isnt c.collect.new.handler.build can.in_front.1 built) c.drain_first.result
    (MatchResult-weaker c.drain_first.result c.drain_first.ensures.ok (λ went goes. goes c.args.provider) (λ fault p. p)) c.drain_first.ensures.notes)
    (λ n. NotesFollow-earlier noted notes c.args.handler.now.application c.collect.new.handler.application _ l.front later.front _ _ _ c.in_ok-collect.ensures.same (ap (λ p. p.front) none.2) n)

pub returns-then-is_some-clause-noted : goal.returns-then-is_some-clause-noted
returns-then-is_some-clause-noted g c =
    let w = workings g.A.Block.Block.header g.A.Block.Block.context_of g.A.Context.Rounded.round_of g.A.Application.works g.A.Databases.DatabaseSet.kind g.A.Databases.DatabaseSet.shows in
    let none = c.in_ok-collect.ensures.none c.if-branch.false in
    let stored = g.S.BlockStore.stored c.args.store.now in
    let members = g.A.Databases.DatabaseSet.members c.args.databases.now in
    let next = g.A.Databases.DatabaseSet.next c.args.databases.now in
    let marks = c.args.marks.now.items in
    let now = executing c.collect.new.handler in
    let later = c.collect.new.processing in
    let l = c.args.processing.now in
    let noted = g.A.Application.works.noted in
    let notes = g.A.Application.notes in
    MatchResult-weaker c.drain_first.result (stay_refused noted c.drain_first.result _ _ later.front c.drain_first.ensures.notes) (λ x p. p)
    (λ fault may other. NotesMayFollow-earlier noted notes c.args.handler.now.application c.collect.new.handler.application _ l.front later.front c.in_ok-collect.ensures.same (ap (λ p. p.front) none.2) (may other))

pub returns-in-Some-clause-notes : goal.returns-in-Some-clause-notes
returns-in-Some-clause-notes g c =
    let w = workings g.A.Block.Block.header g.A.Block.Block.context_of g.A.Context.Rounded.round_of g.A.Application.works g.A.Databases.DatabaseSet.kind g.A.Databases.DatabaseSet.shows in
    let none = c.in_ok-collect.ensures.none c.if-branch.false in
    let stored = g.S.BlockStore.stored c.args.store.now in
    let members = g.A.Databases.DatabaseSet.members c.args.databases.now in
    let next = g.A.Databases.DatabaseSet.next c.args.databases.now in
    let marks = c.args.marks.now.items in
    let now = executing c.collect.new.handler in
    let later = c.collect.new.processing in
    let l = c.args.processing.now in
    let noted = g.A.Application.works.noted in
    let notes = g.A.Application.notes in
    let front : later.front ≡ Some c.in-Some.front = search rules in
    on_ok c.go_on_finalizing.result c.go_on_finalizing.ensures.notes
    (λ n. NotesFollow-earlier noted notes c.args.handler.now.application c.collect.new.handler.application _ l.front (Some c.in-Some.front) _ _ _ c.in_ok-collect.ensures.same (sym front ∙ ap (λ p. p.front) none.2) n)

pub returns-in-Some-clause-noted : goal.returns-in-Some-clause-noted
returns-in-Some-clause-noted g c =
    let w = workings g.A.Block.Block.header g.A.Block.Block.context_of g.A.Context.Rounded.round_of g.A.Application.works g.A.Databases.DatabaseSet.kind g.A.Databases.DatabaseSet.shows in
    let none = c.in_ok-collect.ensures.none c.if-branch.false in
    let stored = g.S.BlockStore.stored c.args.store.now in
    let members = g.A.Databases.DatabaseSet.members c.args.databases.now in
    let next = g.A.Databases.DatabaseSet.next c.args.databases.now in
    let marks = c.args.marks.now.items in
    let now = executing c.collect.new.handler in
    let later = c.collect.new.processing in
    let l = c.args.processing.now in
    let noted = g.A.Application.works.noted in
    let notes = g.A.Application.notes in
    let front : later.front ≡ Some c.in-Some.front = search rules in
    MatchResult-weaker c.go_on_finalizing.result c.go_on_finalizing.ensures.noted (λ x p. p)
    (λ fault may other. NotesMayFollow-earlier noted notes c.args.handler.now.application c.collect.new.handler.application _ l.front (Some c.in-Some.front) c.in_ok-collect.ensures.same (sym front ∙ ap (λ p. p.front) none.2) (may other))

pub returns-in-None-clause-notes : goal.returns-in-None-clause-notes
returns-in-None-clause-notes g c =
    let w = workings g.A.Block.Block.header g.A.Block.Block.context_of g.A.Context.Rounded.round_of g.A.Application.works g.A.Databases.DatabaseSet.kind g.A.Databases.DatabaseSet.shows in
    let none = c.in_ok-collect.ensures.none c.if-branch.false in
    let stored = g.S.BlockStore.stored c.args.store.now in
    let members = g.A.Databases.DatabaseSet.members c.args.databases.now in
    let next = g.A.Databases.DatabaseSet.next c.args.databases.now in
    let marks = c.args.marks.now.items in
    let now = executing c.collect.new.handler in
    let later = c.collect.new.processing in
    let l = c.args.processing.now in
    let noted = g.A.Application.works.noted in
    let notes = g.A.Application.notes in
    let front : later.front ≡ c.take.new.self = search rules in
    let gone : c.take.new.self ≡ None = search rules in
    on_ok c.go_on_idle.result
    (stay_follow noted w (moment w now (record later { front = c.take.new.self }) members next marks) (moment w (executing c.go_on_idle.new.handler) c.go_on_idle.new.processing (g.A.Databases.DatabaseSet.members c.go_on_idle.new.databases) (g.A.Databases.DatabaseSet.next c.go_on_idle.new.databases) c.go_on_idle.new.marks.items) _ _ stored c.args.provider
    (λ can. let both : None ≡ Some can.finalization = sym gone ∙ can.in_front.2 in cc) c.go_on_idle.result
    c.go_on_idle.ensures.ok c.go_on_idle.ensures.notes)
    (λ n. NotesFollow-earlier noted notes c.args.handler.now.application c.collect.new.handler.application _ l.front c.take.new.self _ _ _ c.in_ok-collect.ensures.same (sym front ∙ ap (λ p. p.front) none.2) n)

pub returns-in-None-clause-noted : goal.returns-in-None-clause-noted
returns-in-None-clause-noted g c =
    let w = workings g.A.Block.Block.header g.A.Block.Block.context_of g.A.Context.Rounded.round_of g.A.Application.works g.A.Databases.DatabaseSet.kind g.A.Databases.DatabaseSet.shows in
    let none = c.in_ok-collect.ensures.none c.if-branch.false in
    let stored = g.S.BlockStore.stored c.args.store.now in
    let members = g.A.Databases.DatabaseSet.members c.args.databases.now in
    let next = g.A.Databases.DatabaseSet.next c.args.databases.now in
    let marks = c.args.marks.now.items in
    let now = executing c.collect.new.handler in
    let later = c.collect.new.processing in
    let l = c.args.processing.now in
    let noted = g.A.Application.works.noted in
    let notes = g.A.Application.notes in
    let front : later.front ≡ c.take.new.self = search rules in
    MatchResult-weaker c.go_on_idle.result (stay_refused noted c.go_on_idle.result _ _ c.take.new.self c.go_on_idle.ensures.notes) (λ x p. p)
    (λ fault may other. NotesMayFollow-earlier noted notes c.args.handler.now.application c.collect.new.handler.application _ l.front c.take.new.self c.in_ok-collect.ensures.same (sym front ∙ ap (λ p. p.front) none.2) (may other))
