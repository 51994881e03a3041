use Rattle.std.proofs.Common.{refl}
use Rattle.std.proofs.lemmas.Result.{on_ok_weaker}
use Rattle.stateful_exec_model.specs.Workings.{workings}
use Rattle.stateful_loop_model.specs.Moments.{executing, moment}
use Rattle.stateful_loop_model.proofs.Intakes.{on_err}
use Rattle.stateful_loop_model.proofs.SoundingIntake.{taken_in_sound}
use Rattle.stateful_loop_model.proofs.Handing.{err_holds, converted}
use Rattle.stateful_actor_laws.specs.Left.{taking, going as leaves_going}
use Rattle.stateful_actor_step.specs.Faults.{going}
use Rattle.stateful_loop_model.proofs.NotesFollowing.{error_is, both_ok, NotesFollow-then}
use Rattle.stateful_actor_step.proofs.NotesOfEvents.{taken_follow, taken_observed, taken_reached}
use Rattle.stateful_actor_step.specs.Notes.{taking as notes_taking}
use Rattle.stateful_actor_step.proofs.Counts.{NeverFalls-further}
use Rattle.stateful_actor_step.proofs.inside.Core.advance.Goals as goal

pub settle-requires-clause-none_away : goal.settle-requires-clause-none_away
settle-requires-clause-none_away g c =
    let D = g.A.Databases.DatabaseSet in
    let w = workings g.A.Block.Block.header g.A.Block.Block.context_of g.A.Context.Rounded.round_of g.A.Application.works D.kind D.shows in
    (taken_in_sound w g.met.A.Databases.DatabaseSet.laws
    (g.S.BlockStore.stored c.args.store.now) _ _ _ c.args.event.now c.in_ok-take_in.ensures.ok c.requires.up).none_away

pub settle-requires-clause-up : goal.settle-requires-clause-up
settle-requires-clause-up g c =
    let D = g.A.Databases.DatabaseSet in
    let w = workings g.A.Block.Block.header g.A.Block.Block.context_of g.A.Context.Rounded.round_of g.A.Application.works D.kind D.shows in
    (taken_in_sound w g.met.A.Databases.DatabaseSet.laws
    (g.S.BlockStore.stored c.args.store.now) _ _ _ c.args.event.now c.in_ok-take_in.ensures.ok c.requires.up).up

pub returns-clause-ok : goal.returns-clause-ok
returns-clause-ok g c =
    let D = g.A.Databases.DatabaseSet in
    let w = workings g.A.Block.Block.header g.A.Block.Block.context_of g.A.Context.Rounded.round_of g.A.Application.works D.kind D.shows in
    on_ok_weaker c.settle.result
    (λ settles. record {
      taken = moment w (executing c.take_in.new.handler) c.take_in.new.processing (D.members c.take_in.new.databases)
          (D.next c.take_in.new.databases) c.take_in.new.marks.items;
      takes = c.in_ok-take_in.ensures.ok;
      settles = settles;
    }) c.settle.ensures.ok

pub returns-clause-fault : goal.returns-clause-fault
returns-clause-fault g c =
    on_err c.settle.result _ _ c.settle.ensures.fault
    (λ e fault. going c.in_ok-take_in.ensures.ok
    (record { application = c.in_ok-take_in.ensures.application; databases = c.in_ok-take_in.ensures.later }) fault)

pub returns-in_err-take_in-clause-left : goal.returns-in_err-take_in-clause-left
returns-in_err-take_in-clause-left g c = err_holds c.from_residual.result (c.args.marks.now.items, taking c.in_err-take_in.ensures.left refl)

pub returns-clause-left : goal.returns-clause-left
returns-clause-left g c =
    on_err c.settle.result _ _ c.settle.ensures.left (λ e left. (c.take_in.new.marks.items, leaves_going c.in_ok-take_in.ensures.ok refl left))

pub returns-in_err-take_in-clause-noted : goal.returns-in_err-take_in-clause-noted
returns-in_err-take_in-clause-noted g c =
    converted _ c.from_residual.result c.in_err-take_in.field-0.0 c.from_residual.ensures.1
    (λ other. notes_taking (c.in_err-take_in.ensures.notes (λ is. other (error_is _ is))))

pub returns-clause-notes : goal.returns-clause-notes
returns-clause-notes g c =
    let D = g.A.Databases.DatabaseSet in
    let w = workings g.A.Block.Block.header g.A.Block.Block.context_of g.A.Context.Rounded.round_of g.A.Application.works D.kind D.shows in
    let stored = g.S.BlockStore.stored c.args.store.now in
    let m = moment w (executing c.args.self.now.handler) c.args.self.now.processing (D.members c.args.databases.now)
    (D.next c.args.databases.now) c.args.marks.now.items in
    let taken = moment w (executing c.take_in.new.handler) c.take_in.new.processing (D.members c.take_in.new.databases)
    (D.next c.take_in.new.databases) c.take_in.new.marks.items in
    let stay = c.in_ok-take_in.ensures.notes (λ is. cc) in
    on_ok_weaker c.settle.result
    (λ n. NotesFollow-then g.A.Application.works.noted _ _ _ _ _ _ _ _ _
    (taken_follow w stored g.A.Application.works.noted _ c.args.event.now m taken _ _ c.in_ok-take_in.ensures.ok stay) n) c.settle.ensures.notes

pub returns-clause-observed : goal.returns-clause-observed
returns-clause-observed g c =
    let D = g.A.Databases.DatabaseSet in
    let w = workings g.A.Block.Block.header g.A.Block.Block.context_of g.A.Context.Rounded.round_of g.A.Application.works D.kind D.shows in
    let stored = g.S.BlockStore.stored c.args.store.now in
    let m = moment w (executing c.args.self.now.handler) c.args.self.now.processing (D.members c.args.databases.now)
    (D.next c.args.databases.now) c.args.marks.now.items in
    let taken = moment w (executing c.take_in.new.handler) c.take_in.new.processing (D.members c.take_in.new.databases)
    (D.next c.take_in.new.databases) c.take_in.new.marks.items in
    let stay = c.in_ok-take_in.ensures.notes (λ is. cc) in
    let now = moment w (executing c.settle.new.self.handler) c.settle.new.self.processing (D.members c.settle.new.databases)
    (D.next c.settle.new.databases) c.settle.new.marks.items in
    both_ok c.settle.result c.settle.ensures.ok c.settle.ensures.sound
    (λ settles sound none. taken_observed w stored c.args.self.now.provider _ c.args.event.now m taken now c.in_ok-take_in.ensures.ok settles sound none)

pub returns-clause-noted : goal.returns-clause-noted
returns-clause-noted g c =
    let D = g.A.Databases.DatabaseSet in
    let w = workings g.A.Block.Block.header g.A.Block.Block.context_of g.A.Context.Rounded.round_of g.A.Application.works D.kind D.shows in
    let stored = g.S.BlockStore.stored c.args.store.now in
    let m = moment w (executing c.args.self.now.handler) c.args.self.now.processing (D.members c.args.databases.now)
    (D.next c.args.databases.now) c.args.marks.now.items in
    let taken = moment w (executing c.take_in.new.handler) c.take_in.new.processing (D.members c.take_in.new.databases)
    (D.next c.take_in.new.databases) c.take_in.new.marks.items in
    let stay = c.in_ok-take_in.ensures.notes (λ is. cc) in
    on_err c.settle.result _ _ c.settle.ensures.noted
    (λ e settling other. taken_reached w stored c.args.self.now.provider g.A.Application.works.noted _ c.args.event.now _ _ _ m taken c.in_ok-take_in.ensures.ok stay (settling other))

pub returns-in_err-take_in-clause-never_falls : goal.returns-in_err-take_in-clause-never_falls
returns-in_err-take_in-clause-never_falls g c = record {
  faults = record { application = c.in_err-take_in.ensures.application; databases = c.in_err-take_in.ensures.later };
  numbers = c.in_err-take_in.ensures.numbers;
  barriers = c.in_err-take_in.ensures.barrier;
}

pub returns-clause-never_falls : goal.returns-clause-never_falls
returns-clause-never_falls g c = NeverFalls-further _ _ _ _ _ _
    (record {
      faults = record { application = c.in_ok-take_in.ensures.application; databases = c.in_ok-take_in.ensures.later };
      numbers = c.in_ok-take_in.ensures.numbers;
      barriers = c.in_ok-take_in.ensures.barrier;
    }) c.settle.ensures.never_falls
