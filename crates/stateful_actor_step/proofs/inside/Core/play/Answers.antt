use Rattle.std.proofs.Common.{inl, inr, refl, arith, ap}
use Rattle.stateful_exec_model.specs.Workings.{workings}
use Rattle.stateful_loop_model.specs.Left.{keeps}
use Rattle.stateful_loop_model.specs.Moments.{executing, moment}
use Rattle.stateful_loop_model.proofs.Handing.{converted, err_holds}
use Rattle.stateful_loop_model.proofs.Leaving.{keeps_same}
use Rattle.stateful_loop_model.proofs.SoundingOpenings.{cleared_sound}
use Rattle.stateful_actor_laws.specs.Left.{going}
use Rattle.stateful_actor_step.proofs.OtherErrors.{play_other}
use Rattle.stateful_actor_step.proofs.NotesOfEvents.{ends_none, follow_along, NotesAlong-further, NotesAlong-same}
use Rattle.stateful_loop_model.proofs.AppliedMarks.{AppliesNone-made, AppliesNone-then}
use Rattle.stateful_loop_model.specs.Noted.{unobserved}
use Rattle.stateful_actor_step.proofs.Counts.{NeverFalls-further}
use Rattle.stateful_actor_step.proofs.inside.Core.play.Goals as goal

pub returns-in_err-advance-clause-other : goal.returns-in_err-advance-clause-other
returns-in_err-advance-clause-other g c =
    let D = g.A.Databases.DatabaseSet in
    let w = workings g.A.Block.Block.header g.A.Block.Block.context_of g.A.Context.Rounded.round_of g.A.Application.works D.kind D.shows in
    converted _ c.from_residual.result c.in_err-advance.field-0.0 c.from_residual.ensures.1
    (play_other w _ _ _ _ _ _ _ _ _ c.in_err-advance.ensures.fault)

pub returns-in_ok-stop-clause-ok : goal.returns-in_ok-stop-clause-ok
returns-in_ok-stop-clause-ok g c =
    let D = g.A.Databases.DatabaseSet in
    let w = workings g.A.Block.Block.header g.A.Block.Block.context_of g.A.Context.Rounded.round_of g.A.Application.works D.kind D.shows in
    record {
      settled = moment w (executing c.advance.new.self.handler) c.advance.new.self.processing (D.members c.advance.new.databases)
          (D.next c.advance.new.databases) c.advance.new.marks.items;
      advances = c.in_ok-advance.ensures.ok;
      ends = inr (record {
        down = c.if-not-self.true;
        ends = c.in_ok-stop.ensures.work.0;
        work = rw c.in_ok-advance.ensures.same.0 at c.in_ok-stop.ensures.work.1;
        marks_are = c.in_ok-stop.ensures.work.2;
        cleared = c.in_ok-stop.ensures.cleared c.advance.new.databases c.stop.new.marks.items;
      });
    }

pub returns-in_ok-stop-clause-sound : goal.returns-in_ok-stop-clause-sound
returns-in_ok-stop-clause-sound g c =
    let D = g.A.Databases.DatabaseSet in
    let w = workings g.A.Block.Block.header g.A.Block.Block.context_of g.A.Context.Rounded.round_of g.A.Application.works D.kind D.shows in
    cleared_sound w _ _ (c.in_ok-stop.ensures.cleared c.advance.new.databases c.stop.new.marks.items) c.in_ok-advance.ensures.sound.none_away

pub returns-else-not-self-clause-ok : goal.returns-else-not-self-clause-ok
returns-else-not-self-clause-ok g c =
    let D = g.A.Databases.DatabaseSet in
    let w = workings g.A.Block.Block.header g.A.Block.Block.context_of g.A.Context.Rounded.round_of g.A.Application.works D.kind D.shows in
    record {
      settled = moment w (executing c.advance.new.self.handler) c.advance.new.self.processing (D.members c.advance.new.databases)
          (D.next c.advance.new.databases) c.advance.new.marks.items;
      advances = c.in_ok-advance.ensures.ok;
      ends = inl (c.if-not-self.false, refl);
    }

pub returns-in_err-stop-clause-left : goal.returns-in_err-stop-clause-left
returns-in_err-stop-clause-left g c =
    let D = g.A.Databases.DatabaseSet in
    let w = workings g.A.Block.Block.header g.A.Block.Block.context_of g.A.Context.Rounded.round_of g.A.Application.works D.kind D.shows in
    let a = c.in_ok-advance.ensures.ok in
    err_holds c.from_residual-in_err-stop.result (
      a.taken.marks,
      going a.takes refl (record {
        reached = moment w (executing c.advance.new.self.handler) c.advance.new.self.processing (D.members c.advance.new.databases)
            (D.next c.advance.new.databases) c.advance.new.marks.items;
        along = a.settles.along;
        left = keeps (keeps_same w _ _ refl);
      }),
    )

pub returns-in_err-advance-clause-noted : goal.returns-in_err-advance-clause-noted
returns-in_err-advance-clause-noted g c =
    converted _ c.from_residual.result c.in_err-advance.field-0.0 c.from_residual.ensures.1 c.in_err-advance.ensures.noted

pub returns-in_err-stop-clause-noted : goal.returns-in_err-stop-clause-noted
returns-in_err-stop-clause-noted g c =
    converted _ c.from_residual-in_err-stop.result c.in_err-stop.field-0.0 c.from_residual-in_err-stop.ensures.1
    (λ other. absurd (other c.in_err-stop.ensures.memory.0))

pub returns-in_ok-stop-clause-notes : goal.returns-in_ok-stop-clause-notes
returns-in_ok-stop-clause-notes g c =
    λ p stands none.
    let before = g.A.Application.notes c.args.self.now.handler.application in
    let mid = g.A.Application.notes c.advance.new.self.handler.application in
    let along = follow_along g.A.Application.works.noted before mid _ _ _ _ c.in_ok-advance.ensures.notes none (c.in_ok-advance.ensures.observed none) in
    let work = rw c.in_ok-advance.ensures.same.0 at c.in_ok-stop.ensures.work in
    NotesAlong-same g.A.Application.works.noted g.A.Application.notes before c.advance.new.self.handler.application c.stop.new.self.handler.application _ _ c.in_ok-stop.ensures.application
    (NotesAlong-further g.A.Application.works.noted before mid _ _ _ along
    (AppliesNone-then _ work.0 _ (ends_none g.A.Databases.DatabaseSet.kind.count c.args.self.now.register c.args.event.now _ _ p stands work.1)
    (AppliesNone-made _ _ _ work.2 refl)))

pub returns-in_ok-stop-clause-observed : goal.returns-in_ok-stop-clause-observed
returns-in_ok-stop-clause-observed g c =
    let D = g.A.Databases.DatabaseSet in
    λ none. ap unobserved (c.in_ok-stop.ensures.cleared c.advance.new.databases c.stop.new.marks.items).front.0

pub returns-else-not-self-clause-notes : goal.returns-else-not-self-clause-notes
returns-else-not-self-clause-notes g c =
    λ p stands none. follow_along g.A.Application.works.noted _ _ _ _ _ _ c.in_ok-advance.ensures.notes none (c.in_ok-advance.ensures.observed none)

pub returns-in_ok-stop-clause-never_falls : goal.returns-in_ok-stop-clause-never_falls
returns-in_ok-stop-clause-never_falls g c =
    let D = g.A.Databases.DatabaseSet in
    let d = (c.in_ok-stop.ensures.cleared c.advance.new.databases c.stop.new.marks.items).numbers in
    NeverFalls-further _ _ _ _ _ _ c.in_ok-advance.ensures.never_falls (record {
      faults = record { application = rw c.in_ok-stop.ensures.application (omega arith); databases = λ i. omega arith };
      numbers = (omega arith, omega arith);
      barriers = omega arith;
    })
